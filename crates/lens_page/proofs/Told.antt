-- What a page tells of a network: lines of words, which are read back from the page.
use Rattle.std.proofs.Common
use Common.{◌++◌, ◌<◌, ◌^◌, ◌∙◌, ◌∷◌, ◌≡◌, ◌≤◌, List, None, Some, [], ap, append_assoc, arith, length, map, refl, sym}
use Common.{ℕ}
use Rattle.std.proofs.lemmas.{Bool.Decides.nat_tests, Fmt.decimal_is_IsNumeral}
use Rattle.std.proofs.lemmas.List.{Elements.{All-append, All-cons, All-head, All-nil, All-tail}, append_cancel_left}
use Rattle.std.proofs.lemmas.List.{append_cancel_right}
use Rattle.std.specs.{Char.digit_value, Fmt.signed_decimal, List.{concat, join_with_byte}}
use Rattle.std.specs.{Prelude.{All, Option, codes, decimal}, Str.Parse.AllDigits}
use Rattle.lens_page.specs.Lines
use Lines.{channel_of, channel_words, device_line, ends_words, link_line, network_lines, network_text, number_line}
use Lines.{role_word, vl_line}
use Rattle.net_plan.{proofs.InRange.amount_most}
use Rattle.net_plan.specs.{Belonging.device_name}
use Rattle.net_plan.specs.{Ranges.{IsDeviceInRange, IsInRange, IsLinkInRange, IsVlInRange, IsWithin}}
use Rattle.net_plan.specs.declared.{network.Network.Network}
use Rattle.net_plan.specs.declared.tables.{Device.Device, Link.Link}
use Rattle.net_plan.specs.declared.tables.{Role.{Role, TheVariants.{Client, Cm, Master, Relay}}}
use Rattle.net_plan.specs.declared.tables.{VirtualLink.VirtualLink}
use Rattle.report_text.{specs.{Laws.AreOfNetwork, NoteLine.{body_text, report_of}, Ranges.IsNoteInRange}}
use Rattle.report_text.proofs.{Characters.{IsVisible, decimal_visible, name_visible, visible_from_test}}
use Rattle.report_text.proofs.{Splits.split_once}
use Rattle.report_text.proofs.{Visible.{AreOfLine, AreVisible, IsUnbroken, device_visible, is_lf, line_unbroken}}
use Rattle.run_law.specs.declared.note.Note.{Note}
use Rattle.trace_text.specs.Steps.{Words, space}
use Rattle.tte_io.specs.Line.{lf}
use Rattle.tte_units.specs.{Amount.amount}
use Rattle.tte_units.specs.{declared.{frames.channel.Channel.{Channel, TheVariants.{A, B}}, units.Units.Units}}

-- ---- lines that tell of a network: each begins with a letter, and has one LF, at its end

-- the line is one
pub record IsTold (line : List ℕ) : Type 0 where
  pub first : ℕ
  pub rest : List ℕ
  pub is : line ≡ (first ∷ rest) ++ lf ∷ []
  pub letter : 97 ≤ first
  pub unbroken : IsUnbroken (first ∷ rest)

-- the text begins with none
abbrev pub IsNoWord : List ℕ → Type 0
IsNoWord text = (c : ℕ) (rest : List ℕ) → text ≡ c ∷ rest → c < 97

-- lines of these, and what stands behind them
pub record AreSame (lines others : List (List ℕ)) (text other : List ℕ) : Type 0 where
  pub fronts : lines ≡ others
  pub backs : text ≡ other

not_first : {line : List ℕ} (lines : List (List ℕ)) (text other : List ℕ) → IsTold line → IsNoWord other
    → concat (line ∷ lines) ++ text ≡ other → ⊥
not_first lines text other told low same =
    let begins : other ≡ told.first ∷ (((told.rest ++ lf ∷ []) ++ concat lines) ++ text) =
    sym same ∙ ap (λ (l : List ℕ). (l ++ concat lines) ++ text) told.is in
    omega (arith, low told.first (((told.rest ++ lf ∷ []) ++ concat lines) ++ text) begins, told.letter)

-- a line, and what stands behind it
split_line : {line : List ℕ} (lines : List (List ℕ)) (text : List ℕ) (told : IsTold line)
    → concat (line ∷ lines) ++ text ≡ (told.first ∷ told.rest) ++ lf ∷ (concat lines ++ text)
split_line lines text told =
    let words = told.first ∷ told.rest in
    ap (λ (l : List ℕ). (l ++ concat lines) ++ text) told.is
    ∙ append_assoc (words ++ lf ∷ []) (concat lines) text
    ∙ append_assoc words (lf ∷ []) (concat lines ++ text)

-- where the whole text is the same, so are the lines and what stands behind them
pub same_told : (lines others : List (List ℕ)) (text other : List ℕ) → All IsTold lines → All IsTold others → IsNoWord text → IsNoWord other
    → concat lines ++ text ≡ concat others ++ other → AreSame lines others text other
same_told [] [] text other told told' low low' same = record { fronts = refl; backs = same }
same_told [] (o ∷ others) text other told told' low low' same =
    absurd (not_first others other text (All-head IsTold o others told') low (sym same))
same_told (l ∷ lines) [] text other told told' low low' same =
    absurd (not_first lines text other (All-head IsTold l lines told) low' same)
same_told (l ∷ lines) (o ∷ others) text other told told' low low' same =
    let one = All-head IsTold l lines told in
    let two = All-head IsTold o others told' in
    let moved = sym (split_line lines text one) ∙ same ∙ split_line others other two in
    let parts = split_once is_lf lf (one.first ∷ one.rest) (concat lines ++ text) (two.first ∷ two.rest) (concat others ++ other) refl one.unbroken
    two.unbroken moved in
    let rest = same_told lines others text other (All-tail IsTold l lines told) (All-tail IsTold o others told') low low' parts.backs in
    let line = one.is ∙ ap (λ (t : List ℕ). t ++ lf ∷ []) parts.fronts ∙ sym two.is in
    record { fronts = ap (λ (x : List ℕ). x ∷ lines) line ∙ ap (λ (ls : List (List ℕ)). o ∷ ls) rest.fronts; backs = rest.backs }

-- words of which the first begins with a letter, with spaces between them
pub told_by : (c : ℕ) (cs : List ℕ) (ws : Words) (line : List ℕ) → 97 ≤ c → AreOfLine ((c ∷ cs) ∷ ws)
    → line ≡ join_with_byte space ((c ∷ cs) ∷ ws) ++ lf ∷ [] → IsTold line
told_by c cs [] line letter visible is =
    record { first = c; rest = cs; is = is; letter = letter; unbroken = line_unbroken ((c ∷ cs) ∷ []) visible }
told_by c cs (v ∷ vs) line letter visible is = record {
  first = c;
  rest = cs ++ space ∷ join_with_byte space (v ∷ vs);
  is = is;
  letter = letter;
  unbroken = line_unbroken ((c ∷ cs) ∷ v ∷ vs) visible;
}

-- ---- what a page tells of a network are lines of words: words

role_visible : (role : Role) → IsVisible (role_word role)
role_visible Master = visible_from_test (codes "master") refl
role_visible Client = visible_from_test (codes "client") refl
role_visible Cm = visible_from_test (codes "cm") refl
role_visible Relay = visible_from_test (codes "relay") refl

-- the word of a channel, where there is one
abbrev channel_list : Option Channel → Words
channel_list (Some A) = codes "a" ∷ []
channel_list (Some B) = codes "b" ∷ []
channel_list None = []

channel_visible : (channel : Option Channel) → AreVisible (channel_list channel)
channel_visible (Some A) = (visible_from_test (codes "a") refl, tt)
channel_visible (Some B) = (visible_from_test (codes "b") refl, tt)
channel_visible None = tt

-- ---- lines

number_text : (word number : List ℕ) → word ++ (codes " " ++ (number ++ codes "\n")) ≡ (word ++ space ∷ number) ++ lf ∷ []
number_text word number = simp append_assoc refl

device_text : (name role : List ℕ) (channel : Option Channel) → codes "device " ++ (name ++ (codes " " ++ (role ++ (channel_words channel ++ codes "\n"))))
    ≡ join_with_byte space (codes "device" ∷ name ∷ role ∷ channel_list channel) ++ lf ∷ []
device_text name role (Some A) = simp append_assoc refl
device_text name role (Some B) = simp append_assoc refl
device_text name role None = simp append_assoc refl

link_text : (name child parent : List ℕ) (channel : Option Channel)
    → codes "link " ++ (name ++ ((codes " " ++ (child ++ (codes " " ++ parent))) ++ (channel_words channel ++ codes "\n")))
    ≡ join_with_byte space (codes "link" ∷ name ∷ child ∷ parent ∷ channel_list channel) ++ lf ∷ []
link_text name child parent (Some A) = simp append_assoc refl
link_text name child parent (Some B) = simp append_assoc refl
link_text name child parent None = simp append_assoc refl

vl_text : (name sender : List ℕ) → codes "vl " ++ (name ++ (codes " " ++ (sender ++ codes "\n")))
    ≡ join_with_byte space (codes "vl" ∷ name ∷ sender ∷ []) ++ lf ∷ []
vl_text name sender = simp append_assoc refl

number_told : (c : ℕ) (cs : List ℕ) (low high : ℕ) (units : Units) → 97 ≤ c → IsVisible (c ∷ cs) → high < 2 ^ 64 → IsWithin low high units
    → IsTold (number_line (c ∷ cs) units)
unfolding number_line
number_told c cs low high units letter visible few within =
    let most = amount_most within in
    let number = decimal (amount units) in
    told_by c cs (number ∷ []) (number_line (c ∷ cs) units) letter (visible, (decimal_visible (amount units) (omega (arith, most, few)), tt))
    (number_text (c ∷ cs) number)

device_told : (device : Device) → IsDeviceInRange device → IsTold (device_line device)
unfolding device_line
device_told device range =
    told_by 100 (codes "evice") (device.name ∷ role_word device.role ∷ channel_list device.channel) (device_line device) (omega arith) (
      visible_from_test (codes "device") refl,
      (name_visible device.name range.name, (role_visible device.role, channel_visible device.channel)),
    ) (device_text device.name (role_word device.role) device.channel)

link_told : (network : Network) (link : Link) → IsInRange network → IsLinkInRange network link → IsTold (link_line network link)
unfolding link_line ends_words
link_told network link range own =
    let child = device_name network link.child in
    let parent = device_name network link.parent in
    told_by 108 (codes "ink") (link.name ∷ child ∷ parent ∷ channel_list (channel_of network link)) (link_line network link) (omega arith) (
      visible_from_test (codes "link") refl,
      (
        name_visible link.name own.name,
        (
          device_visible _ link.child range own.child,
          (device_visible _ link.parent range own.parent, channel_visible (channel_of network link)),
        ),
      ),
    ) (link_text link.name child parent (channel_of network link))

vl_told : (network : Network) (vl : VirtualLink) → IsInRange network → IsVlInRange network vl → IsTold (vl_line network vl)
unfolding vl_line
vl_told network vl range own =
    let sender = device_name network vl.sender in
    told_by 118 (codes "l") (vl.name ∷ sender ∷ []) (vl_line network vl) (omega arith) (
      visible_from_test (codes "vl") refl,
      (name_visible vl.name own.name, (device_visible _ vl.sender range own.sender, tt)),
    ) (vl_text vl.name sender)

-- ---- all lines

all_told : {X : Type 0} (line : X → List ℕ) (P : X → Type 0) → ((x : X) → P x → IsTold (line x)) → (xs : List X) → All P xs → All IsTold (map line xs)
all_told line P told [] all = All-nil IsTold
all_told line P told (x ∷ xs) all =
    All-cons IsTold (line x) (map line xs) (told x (All-head P x xs all)) (all_told line P told xs (All-tail P x xs all))

pub network_told : {network : Network} → IsInRange network → All IsTold (network_lines network)
network_told {network} range =
    let devices = all_told device_line IsDeviceInRange device_told network.device range.devices in
    let links = all_told (link_line network) (IsLinkInRange network) (λ link own. link_told network link range own) network.link range.links in
    let vls = all_told (vl_line network) (IsVlInRange network) (λ vl own. vl_told network vl range own) network.vl range.vls in
    let lists = All-append IsTold (map device_line network.device) (map (link_line network) network.link ++ map (vl_line network) network.vl) devices
    (All-append IsTold (map (link_line network) network.link) (map (vl_line network) network.vl) links vls) in
    let cycle = number_told 99 (codes "ycle") (2 ^ 32) (2 ^ 40) network.cycle (omega arith) (visible_from_test (codes "cycle") refl) (omega arith)
    range.cycle in
    let precision = number_told 112 (codes "recision") 1 (2 ^ 40) network.precision (omega arith) (visible_from_test (codes "precision") refl)
    (omega arith) range.precision in
    let all = map device_line network.device ++ (map (link_line network) network.link ++ map (vl_line network) network.vl) in
    let numbers = number_line (codes "precision") network.precision in
    All-cons IsTold (number_line (codes "cycle") network.cycle) (numbers ∷ all) cycle (All-cons IsTold numbers all precision lists)

-- ---- the report and what is told of the network are read back from the page

-- digits and then a space
behind_digits : (ds rest text : List ℕ) → AllDigits 10 ds → text ≡ ds ++ 32 ∷ rest → IsNoWord text
behind_digits [] rest text digits is c more same = let first : c ≡ 32 = cc in omega (arith, first)
behind_digits (d ∷ ds) rest text digits is c more same =
    let first : c ≡ d = cc in
    let digit : d < 97 = below d digits.0 in
    omega (arith, first, digit)
  where
    below : (d : ℕ) → digit_value d < 10 → d < 97
    below d h = grind (arith, nat_tests)

first_words : (number time body rest : List ℕ)
    → ((number ++ codes " " ++ time ++ codes " " ++ body) ++ codes "\n") ++ rest ≡ number ++ 32 ∷ (time ++ 32 ∷ (body ++ 10 ∷ rest))
first_words number time body rest = simp append_assoc refl

empty_low : IsNoWord []
empty_low c rest same = absurd (omega (arith, ap length same))

report_low : {network : Network} (notes : List Note) → AreOfNetwork network notes
    → IsNoWord (concat (report_of network notes))
report_low [] records = empty_low
report_low {network} (n ∷ notes) records =
    let time = signed_decimal n.time.0 in
    let body = body_text network n.body in
    let behind = concat (report_of network notes) in
    let range = All-head IsNoteInRange n notes records.in_range in
    behind_digits (decimal n.number) (time ++ 32 ∷ (body ++ 10 ∷ behind)) (concat (report_of network (n ∷ notes)))
    ((decimal_is_IsNumeral n.number range.number).0).1 (first_words (decimal n.number) time body behind)

-- what stands between two texts
between : (first last one two other second : List ℕ) → concat (first ∷ one ∷ two ∷ last ∷ []) ≡ concat (first ∷ other ∷ second ∷ last ∷ [])
    → one ++ two ≡ other ++ second
between first last one two other second same =
    let end = last ++ [] in
    append_cancel_right (one ++ two) (other ++ second) end
    (append_assoc one two end ∙ append_cancel_left first (one ++ (two ++ end)) (other ++ (second ++ end)) same ∙ sym (append_assoc other second end))

pub same_pages : (first last : List ℕ) {network other : Network} {notes others : List Note} → IsInRange network
    → IsInRange other → AreOfNetwork network notes → AreOfNetwork other others
    → concat (first ∷ network_text network ∷ concat (report_of network notes) ∷ last ∷ [])
    ≡ concat (first ∷ network_text other ∷ concat (report_of other others) ∷ last ∷ [])
    → AreSame (network_lines network) (network_lines other) (concat (report_of network notes))
    (concat (report_of other others))
same_pages first last {network} {other} {notes} {others} range range' records records' same =
    let report = concat (report_of network notes) in
    let second = concat (report_of other others) in
    same_told (network_lines network) (network_lines other) report second (network_told range) (network_told range')
    (report_low notes records) (report_low others records')
    (between first last (network_text network) report (network_text other) second same)
