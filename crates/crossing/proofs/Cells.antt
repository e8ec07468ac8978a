-- A line leaves a cell once: how far its numerator can go and stay in the cell.
use Rattle.std.proofs.Common.{◌≡◌, ◌↔◌, ℕ, zero, suc, ◌+◌, ◌*◌, ◌<◌, ◌≤◌, true, List, [], ◌∷◌, length, Option, Some, None, IfSome, ℤ, pos, negsuc, ◌+ℤ◌, ◌*ℤ◌, ◌≤ℤ◌, ◌<ℤ◌, unsigned_abs, refl, sym, ap, ◌∙◌, arith}
use Rattle.std.specs.Prelude.{neg_ℤ}
use Rattle.std.specs.List.{slice_get}
use Rattle.std.proofs.lemmas.Int.{ints}
use borrow.Author.Differences.{abs_is, product_is}
use Rattle.semantics.specs.declared.fraction.Fraction.{Fraction}
use Rattle.semantics.specs.Grid.{cell}
use Rattle.semantics.specs.Valid.{rising}
use Rattle.device_tables.specs.Ends.{threshold_below, threshold_above, LiesIn}
use Rattle.device_tables.proofs.Counts.{from_natural, abs_positive}
use Rattle.device_tables.proofs.Laws.{cell_within, cell_grows, in_cell}
use Rattle.crossing.specs.declared.gap.Gap.{Gap}
use Rattle.crossing.specs.Gaps.{IsSmall, after, BeginsIn, IsRoom}
use Rattle.crossing.proofs.Straight.{times_sum}

-- ---- where it has one

-- a bound from below holds of what is more, and one from above of what is less
still_above : (o : Option ℤ) (d : ℕ) (x y : ℤ) → x ≤ℤ y → IfSome o (λ θ. (θ *ℤ pos d) ≤ℤ x) → IfSome o (λ θ. (θ *ℤ pos d) ≤ℤ y)
still_above None d x y h l = tt
still_above (Some θ) d x y h l = omega (arith, ints, h, l)

still_under : (o : Option ℤ) (d : ℕ) (x y : ℤ) → y ≤ℤ x → IfSome o (λ θ. x <ℤ (θ *ℤ pos d)) → IfSome o (λ θ. y <ℤ (θ *ℤ pos d))
still_under None d x y h l = tt
still_under (Some θ) d x y h l = omega (arith, ints, h, l)

-- a numerator that has risen by n is in the cell where n is at most the room under its upper end
rises : (zs : List ℤ) (num θ : ℤ) (d room n : ℕ) → rising zs ≡ true → 0 < d →
    threshold_above zs (cell zs (record { num = num; den = d })) ≡ Some θ → num +ℤ pos (room + 1) ≡ θ *ℤ pos d →
    (cell zs (record { num = num +ℤ pos n; den = d }) ≡ cell zs (record { num = num; den = d })) ↔ (n ≤ room)
rises zs num θ d room n r d0 end_is room_is =
    let first : Fraction = record { num = num; den = d } in
    let later : Fraction = record { num = num +ℤ pos n; den = d } in
    let c : ℕ = cell zs first in
    let here : LiesIn zs c first = (in_cell zs first c r d0 (cell_within zs first)).0 refl in
    let there = in_cell zs later c r d0 (cell_within zs first) in (
      λ e. let under = rw end_is at (there.0 e).under in omega (arith, ints, under, room_is),
      λ h. there.1 (record {
        above = still_above (threshold_below zs c) d num later.num (omega (arith, ints)) here.above;
        under = rw end_is (omega (arith, ints, h, room_is));
      }),
    )

-- and one that has fallen by n where n is at most the room above its lower end
falls : (zs : List ℤ) (num θ : ℤ) (d room n : ℕ) → rising zs ≡ true → 0 < d →
    threshold_below zs (cell zs (record { num = num; den = d })) ≡ Some θ → num ≡ (θ *ℤ pos d) +ℤ pos room →
    (cell zs (record { num = num +ℤ neg_ℤ (pos n); den = d }) ≡ cell zs (record { num = num; den = d })) ↔ (n ≤ room)
falls zs num θ d room n r d0 end_is room_is =
    let first : Fraction = record { num = num; den = d } in
    let later : Fraction = record { num = num +ℤ neg_ℤ (pos n); den = d } in
    let c : ℕ = cell zs first in
    let here : LiesIn zs c first = (in_cell zs first c r d0 (cell_within zs first)).0 refl in
    let there = in_cell zs later c r d0 (cell_within zs first) in (
      λ e. let above = rw end_is at (there.0 e).above in omega (arith, ints, above, room_is),
      λ h. there.1 (record {
        above = rw end_is (omega (arith, ints, h, room_is));
        under = still_under (threshold_above zs c) d num later.num (omega (arith, ints)) here.under;
      }),
    )

-- ---- where a cell has no end

none_past : (zs : List ℤ) (i : ℕ) → slice_get zs i ≡ None → length zs ≤ i
none_past [] i e = omega arith
none_past (z ∷ zs) zero e = cc
none_past (z ∷ zs) (suc i) e = omega (arith, none_past zs i e)

first_has_none_below : (zs : List ℤ) (c : ℕ) → c ≤ length zs → threshold_below zs c ≡ None → c ≡ 0
first_has_none_below zs zero h e = refl
first_has_none_below zs (suc c) h e = absurd (omega (arith, none_past zs c e, h))

-- where nothing ends the cell above, what has risen is in it
rises_within : (zs : List ℤ) (num : ℤ) (d n : ℕ) → 0 < d → threshold_above zs (cell zs (record { num = num; den = d })) ≡ None →
    cell zs (record { num = num +ℤ pos n; den = d }) ≡ cell zs (record { num = num; den = d })
rises_within zs num d n d0 e =
    let first : Fraction = record { num = num; den = d } in
    let later : Fraction = record { num = num +ℤ pos n; den = d } in
    omega (arith, cell_grows zs first later d0 (omega (arith, ints, times_sum num (pos n) d)), cell_within zs later, none_past zs (cell zs first) e)

-- and where nothing ends it below, what has fallen
falls_within : (zs : List ℤ) (num : ℤ) (d n : ℕ) → 0 < d → threshold_below zs (cell zs (record { num = num; den = d })) ≡ None →
    cell zs (record { num = num +ℤ neg_ℤ (pos n); den = d }) ≡ cell zs (record { num = num; den = d })
falls_within zs num d n d0 e =
    let first : Fraction = record { num = num; den = d } in
    let later : Fraction = record { num = num +ℤ neg_ℤ (pos n); den = d } in
    let back : later.num +ℤ pos n ≡ num = omega (arith, ints) in
    let product = rw back at (times_sum later.num (pos n) d) in
    omega (arith, cell_grows zs later first d0 (omega (arith, ints, product)), first_has_none_below zs (cell zs first) (cell_within zs first) e)

-- ---- a gap

-- after no tick it is where it begins
at_first : (gap : Gap) → gap.num +ℤ (gap.rate *ℤ pos 0) ≡ gap.num
at_first gap = omega (arith, ints, product_is gap.rate (pos 0))

-- the numerator goes by the size of the rate
upwards : (r : ℤ) (k : ℕ) → pos 0 <ℤ r → r *ℤ pos k ≡ pos (unsigned_abs r * k)
upwards (pos n) k h = refl
upwards (negsuc n) k h = absurd (omega (arith, ints, h))

downwards : (r : ℤ) (k : ℕ) → r <ℤ pos 0 → r *ℤ pos k ≡ neg_ℤ (pos (unsigned_abs r * k))
downwards (pos n) k h = absurd (omega (arith, ints, h))
downwards (negsuc n) k h = refl

-- the cell in which it begins is that of its fields
pub begins_in : (zs : List ℤ) (gap : Gap) (c : ℕ) → IsSmall gap → c ≡ cell zs (record { num = gap.num; den = unsigned_abs gap.den }) → BeginsIn zs gap c
begins_in zs gap c small e = record { small = small; cell_is = e ∙ ap (λ z. cell zs (record { num = z; den = unsigned_abs gap.den })) (sym (at_first gap)) }

begins : (zs : List ℤ) (gap : Gap) (c : ℕ) → BeginsIn zs gap c → c ≡ cell zs (record { num = gap.num; den = unsigned_abs gap.den })
begins zs gap c b = b.cell_is ∙ ap (λ z. cell zs (record { num = z; den = unsigned_abs gap.den })) (at_first gap)

-- its denominator is a natural number
den_is : (gap : Gap) → IsSmall gap → gap.den ≡ pos (unsigned_abs gap.den)
den_is gap small = from_natural gap.den (omega (arith, ints, small.den_from))

pub cell_exists : (zs : List ℤ) (gap : Gap) (c : ℕ) → BeginsIn zs gap c → c ≤ length zs
cell_exists zs gap c b = rw b.cell_is (cell_within zs (after gap 0))

-- it begins between the ends of its cell
lies : (zs : List ℤ) (gap : Gap) (c : ℕ) → BeginsIn zs gap c → rising zs ≡ true → LiesIn zs c (record { num = gap.num; den = unsigned_abs gap.den })
lies zs gap c b r =
    (in_cell zs (record { num = gap.num; den = unsigned_abs gap.den }) c r (abs_positive gap.den b.small.den_from) (cell_exists zs gap c b)).0 (sym (begins zs gap c b))

pub under_end : (zs : List ℤ) (gap : Gap) (c : ℕ) (θ : ℤ) → BeginsIn zs gap c → rising zs ≡ true → threshold_above zs c ≡ Some θ → gap.num <ℤ (θ *ℤ gap.den)
under_end zs gap c θ b r e = let under = rw e at (lies zs gap c b r).under in rw (den_is gap b.small) under

pub over_end : (zs : List ℤ) (gap : Gap) (c : ℕ) (θ : ℤ) → BeginsIn zs gap c → rising zs ≡ true → threshold_below zs c ≡ Some θ → (θ *ℤ gap.den) ≤ℤ gap.num
over_end zs gap c θ b r e = let above = rw e at (lies zs gap c b r).above in rw (den_is gap b.small) above

-- the room to an end of the cell, where there is one
pub leaves_upwards : (zs : List ℤ) (gap : Gap) (c : ℕ) (θ : ℤ) (room : ℕ) → BeginsIn zs gap c → pos 0 <ℤ gap.rate →
    rising zs ≡ true → threshold_above zs c ≡ Some θ → gap.num +ℤ pos (room + 1) ≡ θ *ℤ gap.den → IsRoom zs gap c (Some room)
leaves_upwards zs gap c θ room b up r end_is room_is =
    let here = begins zs gap c b in (
      omega (arith, ints, abs_is gap.rate, up),
      λ k. rw (upwards gap.rate k up, here) (rises zs gap.num θ (unsigned_abs gap.den) room (unsigned_abs gap.rate * k) r (abs_positive gap.den b.small.den_from) (rw (← here) end_is) (rw (← den_is gap b.small) room_is)),
    )

pub leaves_downwards : (zs : List ℤ) (gap : Gap) (c : ℕ) (θ : ℤ) (room : ℕ) → BeginsIn zs gap c → gap.rate <ℤ pos 0 →
    rising zs ≡ true → threshold_below zs c ≡ Some θ → gap.num ≡ (θ *ℤ gap.den) +ℤ pos room → IsRoom zs gap c (Some room)
leaves_downwards zs gap c θ room b down r end_is room_is =
    let here = begins zs gap c b in (
      omega (arith, ints, abs_is gap.rate, down),
      λ k. rw (downwards gap.rate k down, here) (falls zs gap.num θ (unsigned_abs gap.den) room (unsigned_abs gap.rate * k) r (abs_positive gap.den b.small.den_from) (rw (← here) end_is) (rw (← den_is gap b.small) room_is)),
    )

-- it never leaves the cell where there is none
pub stays_upwards : (zs : List ℤ) (gap : Gap) (c : ℕ) → BeginsIn zs gap c → pos 0 <ℤ gap.rate → threshold_above zs c ≡ None → IsRoom zs gap c None
stays_upwards zs gap c b up e k =
    let here = begins zs gap c b in
    rw (upwards gap.rate k up, here) (rises_within zs gap.num (unsigned_abs gap.den) (unsigned_abs gap.rate * k) (abs_positive gap.den b.small.den_from) (rw (← here) e))

pub stays_downwards : (zs : List ℤ) (gap : Gap) (c : ℕ) → BeginsIn zs gap c → gap.rate <ℤ pos 0 → threshold_below zs c ≡ None → IsRoom zs gap c None
stays_downwards zs gap c b down e k =
    let here = begins zs gap c b in
    rw (downwards gap.rate k down, here) (falls_within zs gap.num (unsigned_abs gap.den) (unsigned_abs gap.rate * k) (abs_positive gap.den b.small.den_from) (rw (← here) e))
