-- The copies of frames that come to receivers.
use Rattle.std.specs.Prelude.{◌==◌, Bool, None, Option, Some, false}
use Rattle.{lens_overview.specs.declared.news.Change.Change, net_plan.specs.declared.ids.VlId.VlId}
use Rattle.lens_overview.specs.declared.news.Change.TheVariants as changes

-- what a record changes by which a copy comes
abbrev pub coming : Change → Option Change
coming (changes.Delivers copied) = Some (changes.Delivers copied)
coming (changes.Repeats copied) = Some (changes.Repeats copied)
coming change = None

-- it is a copy of a frame of the virtual link
abbrev pub is_copy_of : VlId → Change → Bool
is_copy_of vl (changes.Delivers copied) = copied.vl.0 == vl.0
is_copy_of vl (changes.Repeats copied) = copied.vl.0 == vl.0
is_copy_of vl change = false
