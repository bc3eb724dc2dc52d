-- The keys of a network file are short.
use Rattle.{net_file.specs.{KeyTexts.key_text, declared.keys.KeyName.{KeyName, TheVariants.Version}}, std.proofs.Common.{◌≤◌, length, lit≤}}

pub key_short : (key : KeyName) → length (key_text key) ≤ 15
unfolding key_text
key_short Version = lit≤ tt
key_short key = lit≤ tt
