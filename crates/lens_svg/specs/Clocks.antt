-- The clocks of a run's devices at its end, as their records tell them.
use Rattle.std.specs.{List.list_any, Prelude.{◌||◌, not, ℤ}}
use Rattle.std.specs.Prelude.{◌*◌, ◌++◌, ◌+ℤ◌, ◌-ℤ◌, ◌/◌, ◌==◌, ◌^◌, ◌∷◌, ◌≤ℤ◌, Bool, List, None, Option, Some, []}
use Rattle.std.specs.Prelude.{false, fold, if◌then◌else◌, int_lt, nat_lt, neg_ℤ, option_map, pos, true, unsigned_abs, ℕ}
use Rattle.lens_svg.specs.{Lanes.{bottom_of, y_of}, Layout.holds, Sketching.moment, declared.clock.Told.Told}
use Rattle.{lens_svg.specs.declared.clock.Ends.Ends, sync_state.specs.declared.state.State.TheVariants.Synchronised}
use Rattle.lens_svg.specs.{Plan.Plan, Views.is_shown, declared.{element.Element.{Element, TheVariants.{Gauge, Spread}}, layout.Span.Span}}
use Rattle.net_plan.specs.declared.{event.What.TheVariants.Break, ids.DeviceId.DeviceId, network.Network.Network}
use Rattle.run_law.specs.declared.note.{Note.Note, NoteBody.{NoteBody, TheVariants.{Clock, Event}}}
use Rattle.tte_units.specs.Amount.{amount}

-- what the records of a part of a run tell of clocks: those of synchronised devices, and the devices that broke
pub record Clocks : Type 0 where
  pub told : List Told
  pub broken : List DeviceId

-- the device that the event breaks, if it breaks one
abbrev pub broken_by : NoteBody → Option DeviceId
broken_by (Event line (Break device)) = Some device
broken_by body = None

-- the clock of a synchronised device that the record tells, if it does
abbrev pub told_by : NoteBody → Option Told
told_by (Clock device reading adjustment Synchronised) =
    Some (record { device = device; reading = reading; adjustment = adjustment })
told_by body = None

-- the same, of a record of the span
abbrev pub told_in : Span → Note → Option Told
told_in span note = if holds span (moment note) then told_by note.body else None

-- the list with one more behind it, if there is one
abbrev pub with_one : {X : Type 0} → List X → Option X → List X
with_one xs (Some x) = xs ++ x ∷ []
with_one xs None = xs

-- what is told behind one more record
abbrev pub clocks_with : Span → Clocks → Note → Clocks
clocks_with span clocks note = record {
  told = with_one clocks.told (told_in span note);
  broken = with_one clocks.broken (broken_by note.body);
}

-- before the first record
abbrev pub no_clocks : Clocks
no_clocks = record { told = []; broken = [] }

-- what the records of a run tell of clocks
abbrev pub clocks_in : Span → List Note → Clocks
clocks_in span notes = fold (clocks_with span) no_clocks notes

-- what the local clock shows
abbrev pub local_of : Told → ℤ
local_of told = told.reading.0 +ℤ told.adjustment.0

-- it lies between these
pub record IsWide (value : ℤ) : Type 0 where
  pub low : neg_ℤ (pos (2 ^ 64)) ≤ℤ value
  pub high : value ≤ℤ pos (2 ^ 64)

-- how far two local clocks are apart
abbrev pub apart_of : Told → Told → ℕ
apart_of told other = unsigned_abs (local_of told -ℤ local_of other)

-- is the device one of these?
abbrev pub is_among : List DeviceId → DeviceId → Bool
is_among devices device = list_any (λ d. d.0 == device.0) devices

-- the one of two clocks that shows less, or more, and the second where they show the same
abbrev pub lesser : Told → Told → Told
lesser told other = if int_lt (local_of told) (local_of other) then told else other

abbrev pub greater : Told → Told → Told
greater told other = if int_lt (local_of other) (local_of told) then told else other

-- the clocks that show the least and the greatest, with one more; that of a broken device is left out
abbrev pub ends_with : Option Ends → Bool → Told → Option Ends
ends_with ends true told = ends
ends_with None false told = Some (record { least = told; greatest = told })
ends_with (Some ends) false told = Some (record {
  least = lesser told ends.least;
  greatest = greater told ends.greatest;
})

-- the clocks of correct synchronised devices that show the least and the greatest, if there are any
abbrev pub ends_of : Clocks → Option Ends
ends_of clocks = fold (λ ends told. ends_with ends (is_among clocks.broken told.device) told) None clocks.told

-- how long a bar is that fills its frame where the part is the whole
abbrev pub share : ℕ → ℕ → ℕ → ℕ
share room part whole = if nat_lt part whole then room * part / whole else room

-- how many nanoseconds a number of units is, rounded down
abbrev pub nanos_of : ℕ → ℕ
nanos_of units = units / 65536

-- how far the clock lies beyond the least: a bar beside its lane's last mark, which is full where it is the greatest
abbrev pub gauge_at : Network → Plan → Ends → Told → Element
gauge_at network plan ends told =
    let beyond = apart_of told ends.least in
    Gauge (record { x = plan.pen.most; y = y_of network plan.view.kept told.device })
    (if beyond == 0 then 0 else share 50 beyond (apart_of ends.greatest ends.least)) (nanos_of beyond)

-- what is drawn of a clock: nothing of that of a broken device, or of one without a lane
abbrev pub gauge_of : Network → Plan → Clocks → Told → Option Element
gauge_of network plan clocks told =
    if is_among clocks.broken told.device || not (is_shown plan.view.kept told.device.0) then None
    else option_map (λ ends. gauge_at network plan ends told) (ends_of clocks)

-- how far the clocks are apart, below the names of the lanes: a bar that is full where that is the precision
abbrev pub spread_at : Network → Plan → Ends → Element
spread_at network plan ends =
    let apart = apart_of ends.greatest ends.least in
    Spread (bottom_of network plan.view.kept) (share 120 apart (amount network.precision)) (nanos_of apart)
    (nanos_of (amount network.precision))

abbrev pub spread_of : Network → Plan → Clocks → Option Element
spread_of network plan clocks = option_map (spread_at network plan) (ends_of clocks)
