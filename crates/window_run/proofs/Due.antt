-- When devices are due, and their cells in between.
use Rattle.std.proofs.Common.{◌≡◌, ◌≢◌, ℕ, zero, suc, ◌+◌, ◌<◌, ◌≤◌, true, List, [], ◌∷◌, length, get_or, set, drop, Option, Some, None, refl, sym, ap, ◌∙◌, arith, ⊎_elim, inl, inr, IfSome}
use Rattle.std.specs.Prelude.{◌⊎◌}
use Rattle.std.specs.List.{Contains}
use Rattle.std.specs.FinMap as map
use Rattle.std.proofs.lemmas.List.{get_or-set_same, get_or-set_other}
use Rattle.std.proofs.lemmas.Bool.{cases_eq}
use Rattle.semantics.specs.declared.fraction.Fraction.{Fraction}
use Rattle.semantics.specs.declared.line.Line.{Line}
use Rattle.semantics.specs.Grid.{cell, difference}
use Rattle.node_ramps.specs.Lines.{voltage}
use Rattle.crossing.specs.Crossing.{cell_at, IsCrossing, IsLeastCrossing}
use Rattle.event_order.specs.Ticks.{Ticks}
use Rattle.window_run.specs.Net.{Net, Cells, End, IsKnown, IsNet}
use Rattle.histories.specs.Track.{line_of}
use Rattle.window_run.specs.Stage.{AreLater, Before, CellsBut, DuesBut, IsFrontier, IsWithin, Keeps, KnowsDue, LineSameOrNear, SameBut, SameVolts, Takes, cell_of, line_at, no_cells}
use Rattle.window_run.proofs.Lines.{less, nothing, nothing_left, of_none}
use Rattle.window_run.proofs.Waiting.{Scheduled, scheduled_there, scheduled_other, not_taken, no_tick, same_tick, some_later}

-- ---- a look

-- before what the search answers the cell is that of now
pub looked : (grid : List _) (a b : Line) (now end : ℕ) (answer : Option ℕ) → IsLeastCrossing grid a b now end answer →
    (s : ℕ) → now ≤ s → s ≤ end → Before s answer → cell_at grid a b s ≡ cell_at grid a b now
looked grid a b now end answer least s h k before = ⊎_elim (λ same. same) (λ other. absurd (by answer least before (record { later = later other; by_end = k; other_cell = other }))) (cases_eq (cell_at grid a b s) (cell_at grid a b now))
  where
    later : cell_at grid a b s ≢ cell_at grid a b now → now < s
    later other = ⊎_elim (λ (e : now ≡ s). absurd (other (ap (cell_at grid a b) (sym e)))) (λ n. omega (arith, h, n)) (cases_eq now s)

    by : (o : Option ℕ) → IsLeastCrossing grid a b now end o → Before s o → IsCrossing grid a b now end s → ⊥
    by None never before at = never s at
    by (Some d) first before at = let within = before d refl in let least_is = first.1 s at in omega (arith, within, least_is)

-- and then it is another one
pub crossed : (grid : List _) (a b : Line) (now end : ℕ) (answer : Option ℕ) → IsLeastCrossing grid a b now end answer → (d : ℕ) → answer ≡ Some d → cell_at grid a b d ≢ cell_at grid a b now
crossed grid a b now end None least d e = absurd (no_tick d e)
crossed grid a b now end (Some t) least d e = rw (← same_tick t d e) least.0.other_cell

pub looked_later : (grid : List _) (a b : Line) (now end : ℕ) (answer : Option ℕ) → IsLeastCrossing grid a b now end answer → Before now answer
looked_later grid a b now end None never = λ d e. absurd (no_tick d e)
looked_later grid a b now end (Some t) first = some_later now t first.0.later

pub pair_of : (a b c d : ℕ) → a ≡ c → b ≡ d → ◌≡◌ {A = Cells} (a, b) (c, d)
pair_of a b c d e f = rw (e, f) refl

first_of : Cells → ℕ
first_of c = c.0

second_of : Cells → ℕ
second_of c = c.1

pub first_same : (a b c d : ℕ) → ◌≡◌ {A = Cells} (a, b) (c, d) → a ≡ c
unfolding first_of
first_same a b c d e = ap first_of e

pub second_same : (a b c d : ℕ) → ◌≡◌ {A = Cells} (a, b) (c, d) → b ≡ d
unfolding second_of
second_same a b c d e = ap second_of e

-- ---- one more is done

pub look_more : (net : Net) (ls : List Line) (now end : ℕ) (cs : List Cells) (old new : Ticks) (todo : List ℕ) (j k : ℕ) (answer : Option ℕ) →
    j < length todo → k ≡ get_or todo j 0 → Scheduled old new k answer → KnowsDue net k ls now end (get_or cs k no_cells) answer → DuesBut (drop j todo) net ls now end cs old → DuesBut (drop (j + 1) todo) net ls now end cs new
look_more net ls now end cs old new todo j k answer inside is set_to knows was = λ i below.
    ⊎_elim
    (λ (e : k ≡ i). inl (rw (← e, scheduled_there old new k answer set_to) knows))
    (λ (n : k ≢ i). ⊎_elim
    (λ (keeps : KnowsDue net i ls now end (get_or cs i no_cells) (map.get old i)). inl (rw (scheduled_other old new k i answer set_to (λ e. n (sym e))) keeps))
    (λ (has : Contains (drop j todo) i). inr (less todo j k i inside is n has))
    (was i below))
    (cases_eq k i)

pub enter_more : (net : Net) (ls : List Line) (now : ℕ) (cs : List Cells) (todo : List ℕ) (j k : ℕ) (c : Cells) → j < length todo → k ≡ get_or todo j 0 → k < length cs → c ≡ cell_of net ls now k →
    CellsBut (drop j todo) net ls cs now → CellsBut (drop (j + 1) todo) net ls (set cs k c) now
enter_more net ls now cs todo j k c inside is within new old = λ i below.
    ⊎_elim
    (λ (e : k ≡ i). inl (rw (← e, get_or-set_same cs k c no_cells within) new))
    (λ (n : k ≢ i). ⊎_elim
    (λ (keeps : get_or cs i no_cells ≡ cell_of net ls now i). inl (rw (get_or-set_other cs k i c no_cells (λ e. n (sym e))) keeps))
    (λ (has : Contains (drop j todo) i). inr (less todo j k i inside is n has))
    (old i below))
    (cases_eq k i)

-- one that is in its cell need not enter it
pub enter_same : (net : Net) (ls : List Line) (now : ℕ) (cs : List Cells) (todo : List ℕ) (j k : ℕ) → j < length todo → k ≡ get_or todo j 0 → get_or cs k no_cells ≡ cell_of net ls now k → CellsBut (drop j todo) net ls cs now → CellsBut (drop (j + 1) todo) net ls cs now
enter_same net ls now cs todo j k inside is fine old = λ i below.
    ⊎_elim
    (λ (e : k ≡ i). inl (rw (← e) fine))
    (λ (n : k ≢ i). ⊎_elim
    (λ (keeps : get_or cs i no_cells ≡ cell_of net ls now i). inl keeps)
    (λ (has : Contains (drop j todo) i). inr (less todo j k i inside is n has))
    (old i below))
    (cases_eq k i)

pub same_more : (first cs : List Cells) (todo : List ℕ) (k : ℕ) (c : Cells) → Contains todo k → SameBut todo first cs → SameBut todo first (set cs k c)
same_more first cs todo k c has same = λ i.
    ⊎_elim
    (λ (e : k ≡ i). inr (rw (← e) has))
    (λ (n : k ≢ i). ⊎_elim
    (λ (keeps : get_or cs i no_cells ≡ get_or first i no_cells). inl (rw (get_or-set_other cs k i c no_cells (λ e. n (sym e))) keeps))
    (λ (h : Contains todo i). inr h)
    (same i))
    (cases_eq k i)

-- ---- after a tick

-- a device whose ends have their lines keeps its due tick
pub unmoved : (net : Net) (k : ℕ) (old new : List Line) (before now end : ℕ) (c : Cells) (due : Option ℕ) → before ≤ now →
    line_at new (net.first k) ≡ line_at old (net.first k) → line_at new (net.second k) ≡ line_at old (net.second k) → line_at new (net.gate k) ≡ line_at old (net.gate k) →
    KnowsDue net k old before end c due → KnowsDue net k new now end c due
unfolding cell_of
unmoved net k old new before now end c due h first second gate knows = record {
  stays = λ s from upto early. rw (first, second, gate) (knows.stays s (omega (arith, h, from)) upto early);
  leaves = λ d is. rw (first, second, gate) (knows.leaves d is);
}

-- before it, each device that is not due stays in its cells: so only the due ones, and those that are still to be looked at, are to be brought into theirs
pub cells_at_next : (net : Net) (ls : List Line) (before now end : ℕ) (cs : List Cells) (dues : Ticks) (todo : List ℕ) → before ≤ now → now ≤ end → AreLater dues now → DuesBut todo net ls before end cs dues → CellsBut todo net ls cs now
cells_at_next net ls before now end cs dues todo h l later stay = λ k below.
    ⊎_elim
    (λ (knows : KnowsDue net k ls before end (get_or cs k no_cells) (map.get dues k)). inl (sym (knows.stays now h l (later k))))
    (λ (has : Contains todo k). inr has)
    (stay k below)

-- the line of an end is that which it was, or the devices near it are noted
end_same : (net : Net) (old new : List Line) (looks : List ℕ) (k : ℕ) (end : End) → LineSameOrNear net old new looks → ((i : ℕ) → end ≡ Some i → Contains (net.near i) k) → (line_at new end ≡ line_at old end) ⊎ Contains looks k
end_same net old new looks k None lines covers = inl refl
end_same net old new looks k (Some i) lines covers = ⊎_elim (λ (e : line_of new i ≡ line_of old i). inl e) (λ (noted : (x : ℕ) → Contains (net.near i) x → Contains looks x). inr (noted k (covers i refl))) (lines i)

-- each device that was not still to be looked at, is in its cell and has its lines still stays: so only the others are to be looked at
pub looks_cover : (net : Net) (old new : List Line) (before now end : ℕ) (cs ds : List Cells) (dues : Ticks) (todo looks : List ℕ) → IsNet net → before ≤ now → DuesBut todo net old before end cs dues →
    SameBut looks cs ds → LineSameOrNear net old new looks → Keeps todo looks → DuesBut looks net new now end ds dues
looks_cover net old new before now end cs ds dues todo looks is h stay same lines rest = λ k below.
    ⊎_elim
    (λ (cells : get_or ds k no_cells ≡ get_or cs k no_cells). ⊎_elim
    (λ (first : line_at new (net.first k) ≡ line_at old (net.first k)). ⊎_elim
    (λ (second : line_at new (net.second k) ≡ line_at old (net.second k)). ⊎_elim
    (λ (gate : line_at new (net.gate k) ≡ line_at old (net.gate k)). ⊎_elim
    (λ (knows : KnowsDue net k old before end (get_or cs k no_cells) (map.get dues k)). inl (rw cells (unmoved net k old new before now end (get_or cs k no_cells) (map.get dues k) h first second gate knows)))
    (λ (has : Contains todo k). inr (rest k has))
    (stay k below))
    (λ (noted : Contains looks k). inr noted)
    (end_same net old new looks k (net.gate k) lines (λ i e. is.covers i k below (inr (inr e)))))
    (λ (noted : Contains looks k). inr noted)
    (end_same net old new looks k (net.second k) lines (λ i e. is.covers i k below (inr (inl e)))))
    (λ (noted : Contains looks k). inr noted)
    (end_same net old new looks k (net.first k) lines (λ i e. is.covers i k below (inl e))))
    (λ (noted : Contains looks k). inr noted)
    (same k)

-- ---- the voltages of the ends

pub within : (net : Net) (count : ℕ) (end : End) → count ≡ net.nodes → IsKnown net end → IsWithin count end
within net count None e known = tt
within net count (Some i) e known = let h = known.0 in omega (arith, e, h)

end_volts : (old new : List Line) (now : ℕ) (end : End) → IsWithin (length old) end → SameVolts old new now → voltage (line_at new end) now ≡ voltage (line_at old end) now
end_volts old new now None inside same = refl
end_volts old new now (Some i) inside same = same i inside

both : Net → ℕ → Fraction → Fraction → Fraction → Cells
both net k a b g = (cell (net.gate_grid k) (difference g b), cell (net.drain_grid k) (difference a b))

-- the devices are in the cells of their lines still, since at the tick each node has the voltage that it had
pub cells_kept : (net : Net) (old new : List Line) (now : ℕ) (cs : List Cells) → IsNet net → length old ≡ net.nodes → SameVolts old new now → CellsBut [] net old cs now → CellsBut [] net new cs now
unfolding cell_of both
cells_kept net old new now cs is count same at = λ k below.
    inl (of_none _ k (at k below) ∙ sym (
    ap (λ (v : Fraction). both net k v (voltage (line_at new (net.second k)) now) (voltage (line_at new (net.gate k)) now)) (end_volts old new now (net.first k) (within net (length old) (net.first k) count (is.first k below)) same)
    ∙ ap (λ (v : Fraction). both net k (voltage (line_at old (net.first k)) now) v (voltage (line_at new (net.gate k)) now)) (end_volts old new now (net.second k) (within net (length old) (net.second k) count (is.second k below)) same)
    ∙ ap (λ (v : Fraction). both net k (voltage (line_at old (net.first k)) now) (voltage (line_at old (net.second k)) now) v) (end_volts old new now (net.gate k) (within net (length old) (net.gate k) count (is.gate k below)) same)))

-- the lesser of the two ticks at which a device leaves one of its cells
pub knows_due : (net : Net) (k : ℕ) (ls : List Line) (now end : ℕ) (c : Cells) (gate drain due : Option ℕ) → c ≡ cell_of net ls now k →
    IsLeastCrossing (net.gate_grid k) (line_at ls (net.gate k)) (line_at ls (net.second k)) now end gate → IsLeastCrossing (net.drain_grid k) (line_at ls (net.first k)) (line_at ls (net.second k)) now end drain →
    ((s : ℕ) → Before s due → Before s gate × Before s drain) → (due ≡ gate) ⊎ (due ≡ drain) → KnowsDue net k ls now end c due
unfolding cell_of
knows_due net k ls now end c gate drain due is gates drains both one = record {
  stays = λ s from upto early. pair_of _ _ _ _
      (looked (net.gate_grid k) (line_at ls (net.gate k)) (line_at ls (net.second k)) now end gate gates s from upto (both s early).0)
      (looked (net.drain_grid k) (line_at ls (net.first k)) (line_at ls (net.second k)) now end drain drains s from upto (both s early).1) ∙ sym is;
  leaves = λ d e same. ⊎_elim
      (λ (f : due ≡ gate). crossed (net.gate_grid k) (line_at ls (net.gate k)) (line_at ls (net.second k)) now end gate gates d (sym f ∙ e) (first_same _ _ _ _ (same ∙ is)))
      (λ (f : due ≡ drain). crossed (net.drain_grid k) (line_at ls (net.first k)) (line_at ls (net.second k)) now end drain drains d (sym f ∙ e) (second_same _ _ _ _ (same ∙ is)))
      one;
}

-- the lesser of two later ticks is later
pub one_later : (now : ℕ) (a b due : Option ℕ) → (due ≡ a) ⊎ (due ≡ b) → Before now a → Before now b → Before now due
one_later now a b due one la lb = ⊎_elim (λ (e : due ≡ a). λ d f. la d (sym e ∙ f)) (λ (e : due ≡ b). λ d f. lb d (sym e ∙ f)) one

-- what is due is taken from the queue
pub dues_taken : (net : Net) (ls : List Line) (before now end : ℕ) (cs : List Cells) (old new : Ticks) (due : List ℕ) → Takes now old new due → DuesBut [] net ls before end cs old → DuesBut due net ls before end cs new
dues_taken net ls before now end cs old new due takes stay = λ k below. ⊎_elim
    (λ (e : map.get new k ≡ map.get old k). inl (rw e (of_none (KnowsDue net k ls before end (get_or cs k no_cells) (map.get old k)) k (stay k below))))
    (λ (has : Contains due k). inr has)
    (not_taken now old new due takes k)
