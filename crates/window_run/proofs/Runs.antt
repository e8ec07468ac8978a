-- The run between event ticks, and at them.
use Rattle.std.proofs.Common.{◌≡◌, ◌≢◌, ℕ, zero, suc, ◌+◌, ◌-◌, ◌<◌, ◌≤◌, true, false, cond, List, [], length, get_or, Option, Some, None, refl, sym, ap, ◌∙◌, arith, ⊎_elim, inl, inr, ◌⊎◌, ℤ, pos, ◌+ℤ◌, ◌*ℤ◌, unsigned_abs, ◌^◌}
use Rattle.std.specs.List.{Contains}
use Rattle.std.specs.FinMap as map
use Rattle.std.proofs.lemmas.Int.{ints}
use Rattle.std.proofs.lemmas.Bool.{cases_eq}
use Rattle.semantics.specs.declared.fraction.Fraction.{Fraction}
use Rattle.semantics.specs.declared.line.Line.{Line}
use Rattle.semantics.specs.Grid.{cell, difference}
use Rattle.node_ramps.specs.Lines.{num_at, turned, voltage}
use Rattle.node_ramps.proofs.Sums.{same_line}
use Rattle.event_order.specs.Ticks.{Ticks}
use Rattle.window_run.specs.Net.{Bends, Cells, Changes, End, HasEventTicks, IsEventTick, IsKnown, IsNet, IsRun, Net, cells_in, charged, current_at, driven_pair, ground, inflows, volts}
use Rattle.histories.specs.Track.{line_of, pair}
use Rattle.window_run.specs.Pieces.{PiecesGo, PiecesKept, pairs, piece_of}
use Rattle.window_run.specs.Stage.{AmpsAre, AreLater, CellsBut, RatesAre, Before, BendsBut, DuesBut, IsFrontier, IsSteady, IsTrusted, IsUnderWay, KnowsDue, Waits, cell_of, ground_line, line_at, no_cells}
use Rattle.window_run.specs.declared.stage.Stage.{Stage}
use Rattle.window_run.proofs.Flows.{same_flows}
use Rattle.window_run.proofs.Lines.{gains_rate, of_none}
use Rattle.window_run.proofs.Pieces.{goes}
use Rattle.window_run.proofs.Waiting.{no_tick, same_tick, some_later, split}

-- ---- the voltages of the ends

none_times : (s : ℕ) → (pos 0) +ℤ ((pos 0) *ℤ pos s) ≡ pos 0
none_times s = omega (arith, ints)

at_ground : (s : ℕ) → ground ≡ voltage ground_line s
at_ground s = ap (λ (z : ℤ). record { num = z; den = 1 }) (sym (none_times (s - 0)))

-- a free node's, before its line turns
free_volts : (net : Net) (from : ℕ) (ps : List (List Line)) (ls : List Line) (i s : ℕ) → net.free i ≡ true → i < net.nodes → PiecesGo net from ps ls → (line_of ls i).start ≤ s → volts net (pairs ps) s (Some i) ≡ voltage (line_of ls i) s
free_volts net from ps ls i s free inside go h = rw free (goes from (piece_of ps i) (line_of ls i) (go i inside free) s h)

-- a driven node's, where its line is that of its source
driven_volts : (net : Net) (x : ℕ → ℕ → Fraction) (l : Line) (i s : ℕ) → IsNet net → net.driven i ≡ true → net.drive i s ≡ turned l s l.rate → volts net x s (Some i) ≡ voltage l s
driven_volts net x l i s is driven e = rw (is.apart i driven) (ap driven_pair e)

-- those of a driven node go on up to its next bend
source_goes : (net : Net) (ls : List Line) (before next end s : ℕ) (bends : Ticks) (i : ℕ) → i < net.nodes → net.driven i ≡ true → BendsBut [] net ls before end bends → before ≤ s → s ≤ end → Before s (map.get bends i) → net.drive i s ≡ turned (line_of ls i) s (line_of ls i).rate
source_goes net ls before next end s bends i inside driven trust h k early = (of_none (IsTrusted (net.drive i) (line_of ls i) before end (map.get bends i)) i (trust i inside driven)).has s h k early

-- the stage's lines have the voltages of each end before the next event tick
pub volts_between : (net : Net) (from : ℕ) (ps : List (List Line)) (st : Stage) (before next end s : ℕ) → IsNet net → IsSteady net st before end → IsFrontier st.bends next → next ≤ end → PiecesGo net from ps st.lines.items → before ≤ s → s < next →
    (e : End) → IsKnown net e → volts net (pairs ps) s e ≡ voltage (line_at st.lines.items e) s
volts_between net from ps st before next end s is steady frontier by_end go h early None known = at_ground s
volts_between net from ps st before next end s is steady frontier by_end go h early (Some i) known = ⊎_elim
    (λ (free : net.free i ≡ true). free_volts net from ps st.lines.items i s free known.0 go (let b = steady.lines.started i (omega (arith, known.0, steady.count_lines)) in omega (arith, b, h)))
    (λ (driven : net.driven i ≡ true). driven_volts net (pairs ps) (line_of st.lines.items i) i s is driven
    (source_goes net st.lines.items before next end s st.bends i known.0 driven steady.trust h (omega (arith, early, by_end)) (λ d e. let f = frontier i d e in omega (arith, f, early))))
    known.1

both : Net → ℕ → Fraction → Fraction → Fraction → Cells
both net k a b g = (cell (net.gate_grid k) (difference g b), cell (net.drain_grid k) (difference a b))

-- ends that have the same voltages give the same cells
pub same_cells : (net : Net) (u v : End → Fraction) (k : ℕ) → u (net.first k) ≡ v (net.first k) → u (net.second k) ≡ v (net.second k) → u (net.gate k) ≡ v (net.gate k) → cells_in net u k ≡ cells_in net v k
unfolding cells_in both
same_cells net u v k a b g =
    ap (λ (x : Fraction). both net k x (u (net.second k)) (u (net.gate k))) a
    ∙ ap (λ (x : Fraction). both net k (v (net.first k)) x (u (net.gate k))) b
    ∙ ap (λ (x : Fraction). both net k (v (net.first k)) (v (net.second k)) x) g

of_lines : (net : Net) (ls : List Line) (k s : ℕ) → cells_in net (λ e. voltage (line_at ls e) s) k ≡ cell_of net ls s k
unfolding cells_in cell_of
of_lines net ls k s = refl

-- so each device is in its cells
pub cells_between : (net : Net) (from : ℕ) (ps : List (List Line)) (st : Stage) (before next end s : ℕ) → IsNet net → IsSteady net st before end → IsFrontier st.dues next → IsFrontier st.bends next → next ≤ end → PiecesGo net from ps st.lines.items → before ≤ s → s < next →
    (k : ℕ) → k < net.devices → cells_in net (volts net (pairs ps) s) k ≡ get_or st.cells.items k no_cells
cells_between net from ps st before next end s is steady dues bends by_end go h early k inside =
    let same = volts_between net from ps st before next end s is steady bends by_end go h early in
    same_cells net (volts net (pairs ps) s) (λ e. voltage (line_at st.lines.items e) s) k (same (net.first k) (is.first k inside)) (same (net.second k) (is.second k inside)) (same (net.gate k) (is.gate k inside))
    ∙ of_lines net st.lines.items k s
    ∙ (of_none (KnowsDue net k st.lines.items before end (get_or st.cells.items k no_cells) (map.get st.dues k)) k (steady.stay k inside)).stays s h (omega (arith, early, by_end)) (λ d e. let f = dues k d e in omega (arith, f, early))

-- ---- the run goes on to the next event tick

pub run_more : (net : Net) (from : ℕ) (ps : List (List Line)) (st : Stage) (before next end : ℕ) → IsNet net → IsSteady net st before end → IsFrontier st.dues next → IsFrontier st.bends next → next ≤ end → PiecesGo net from ps st.lines.items → IsRun net (pairs ps) from before → IsRun net (pairs ps) from next
run_more net from ps st before next end is steady dues bends by_end go run = λ i s inside free h early. ⊎_elim
    (λ (old : s < before). run i s inside free h old)
    (λ (new : before ≤ s).
    let l : Line = line_of st.lines.items i in
    let flow : current_at net (pairs ps) s i ≡ inflows net i (λ k. get_or st.amps.items k (pos 0)) net.devices =
    same_flows net i (λ k. net.amps k (cells_in net (volts net (pairs ps) s) k)) (λ k. get_or st.amps.items k (pos 0)) net.devices
    (λ k below. ap (net.amps k) (cells_between net from ps st before next end s is steady dues bends by_end go new early k below) ∙ sym (steady.amps k below)) in
    let started : l.start ≤ s = (let b = steady.lines.started i (omega (arith, inside, steady.count_lines)) in omega (arith, b, new)) in
    let rate : l.rate ≡ current_at net (pairs ps) s i = of_none (l.rate ≡ get_or st.rates.items i (pos 0)) i (steady.goes i inside free) ∙ steady.flows i inside ∙ sym flow in
    let here : pairs ps i s ≡ voltage l s = goes from (piece_of ps i) l (go i inside free) s started in
    let there : pairs ps i (s + 1) ≡ voltage l (s + 1) = goes from (piece_of ps i) l (go i inside free) (s + 1) (omega (arith, started)) in
    there ∙ ap (λ (z : ℤ). record { num = z; den = l.den }) (gains_rate l s started ∙ ap (λ z. num_at l s +ℤ z) rate) ∙ ap (λ (v : Fraction). charged v (current_at net (pairs ps) s i)) (sym here))
    (split s before)

-- ---- what is kept

pub volts_kept : (net : Net) (old new : List (List Line)) (now s : ℕ) → s ≤ now → PiecesKept net old new now → (e : End) → IsKnown net e → volts net (pairs new) s e ≡ volts net (pairs old) s e
volts_kept net old new now s h kept None known = refl
volts_kept net old new now s h kept (Some i) known = by (net.free i) refl
  where
    by : (b : _) → net.free i ≡ b → volts net (pairs new) s (Some i) ≡ volts net (pairs old) s (Some i)
    by true free = rw free (kept i s known.0 free h)
    by false free = rw free refl

pub cells_kept : (net : Net) (old new : List (List Line)) (now s : ℕ) → IsNet net → s ≤ now → PiecesKept net old new now → (k : ℕ) → k < net.devices → cells_in net (volts net (pairs new) s) k ≡ cells_in net (volts net (pairs old) s) k
cells_kept net old new now s is h kept k inside =
    let same = volts_kept net old new now s h kept in
    same_cells net (volts net (pairs new) s) (volts net (pairs old) s) k (same (net.first k) (is.first k inside)) (same (net.second k) (is.second k inside)) (same (net.gate k) (is.gate k inside))

pub run_kept : (net : Net) (old new : List (List Line)) (from now : ℕ) → IsNet net → PiecesKept net old new now → IsRun net (pairs old) from now → IsRun net (pairs new) from now
run_kept net old new from now is kept run = λ i s inside free h early.
    let flow : current_at net (pairs old) s i ≡ current_at net (pairs new) s i =
    same_flows net i (λ k. net.amps k (cells_in net (volts net (pairs old) s) k)) (λ k. net.amps k (cells_in net (volts net (pairs new) s) k)) net.devices
    (λ k below. ap (net.amps k) (sym (cells_kept net old new now s is (omega (arith, early)) kept k below))) in
    kept i (s + 1) inside free (omega (arith, early)) ∙ run i s inside free h early
    ∙ ap (λ z. charged (pairs old i s) z) flow
    ∙ ap (λ (v : Fraction). charged v (current_at net (pairs new) s i)) (sym (kept i s inside free (omega (arith, early))))

event_kept : (net : Net) (old new : List (List Line)) (from now t : ℕ) → IsNet net → t ≤ now → PiecesKept net old new now → IsEventTick net (pairs old) from t → IsEventTick net (pairs new) from t
event_kept net old new from now t is h kept event = ⊎_elim
    (λ (e : t ≡ from). inl e)
    (λ (later : (from < t) × (Changes net (pairs old) t ⊎ Bends net t)). inr (
      later.0,
      ⊎_elim
          (λ (c : Changes net (pairs old) t). inl (record {
            device = c.device;
            inside = c.inside;
            before = c.before;
            next = c.next;
            other = λ same. c.other (sym (cells_kept net old new now t is h kept c.device c.inside) ∙ same ∙ cells_kept net old new now c.before is (let n = c.next in omega (arith, n, h)) kept c.device c.inside);
          }))
          (λ (b : Bends net t). inr b)
          later.1,
    ))
    event

pub ticks_kept : (net : Net) (old new : List (List Line)) (from now n below : ℕ) → IsNet net → below ≤ now + 1 → PiecesKept net old new now → HasEventTicks net (pairs old) from n below → HasEventTicks net (pairs new) from n below
ticks_kept net old new from now zero below is h kept ticks = tt
ticks_kept net old new from now (suc n) below is h kept (t, lower, event, rest) =
    (t, lower, event_kept net old new from now t is (omega (arith, lower, h)) kept event, ticks_kept net old new from now n t is (omega (arith, lower, h)) kept rest)

-- ---- an event tick

bends_there : (net : Net) (st : Stage) (before next end i : ℕ) → IsSteady net st before end → next ≤ end → before < next → i < net.nodes → net.driven i ≡ true → map.get st.bends i ≡ Some next → Bends net next
bends_there net st before next end i steady by_end h inside driven e =
    let l : Line = line_of st.lines.items i in
    let trusted : IsTrusted (net.drive i) l before end (map.get st.bends i) = of_none (IsTrusted (net.drive i) l before end (map.get st.bends i)) i (steady.trust i inside driven) in
    let last : ℕ = next - 1 in
    let is : net.drive i last ≡ turned l last l.rate = trusted.has last (omega (arith, h)) (omega (arith, by_end)) (λ d f. let same = same_tick next d (sym e ∙ f) in omega (arith, same, h)) in
    let begun = steady.lines.started i (omega (arith, inside, steady.count_lines)) in
    let on : turned (turned l last l.rate) next l.rate ≡ turned l next l.rate = ap (λ (z : ℤ). record { start = next; num = z; rate = l.rate; den = l.den }) (same_line l last next l.rate refl (omega (arith, begun, h)) (omega (arith, h))) in
    record {
      node = i;
      is_driven = driven;
      before = last;
      next = omega (arith, h);
      other = λ same. trusted.bends next e (same ∙ ap (λ (m : Line). turned m next m.rate) is ∙ on);
    }

-- at the next event tick an end has the voltage of its line, or its source bends
end_or_bend : (net : Net) (from : ℕ) (ps : List (List Line)) (st : Stage) (before next end : ℕ) → IsNet net → IsSteady net st before end → IsFrontier st.bends next → next ≤ end → PiecesGo net from ps st.lines.items → before < next →
    (e : End) → IsKnown net e → (volts net (pairs ps) next e ≡ voltage (line_at st.lines.items e) next) ⊎ Bends net next
end_or_bend net from ps st before next end is steady frontier by_end go h None known = inl (at_ground next)
end_or_bend net from ps st before next end is steady frontier by_end go h (Some i) known = ⊎_elim
    (λ (free : net.free i ≡ true). inl (free_volts net from ps st.lines.items i next free known.0 go (let b = steady.lines.started i (omega (arith, known.0, steady.count_lines)) in omega (arith, b, h))))
    (λ (driven : net.driven i ≡ true). by driven (map.get st.bends i) refl)
    known.1
  where
    goes_on : net.driven i ≡ true → Before next (map.get st.bends i) → (volts net (pairs ps) next (Some i) ≡ voltage (line_at st.lines.items (Some i)) next) ⊎ Bends net next
    goes_on driven early = inl (driven_volts net (pairs ps) (line_of st.lines.items i) i next is driven (source_goes net st.lines.items before next end next st.bends i known.0 driven steady.trust (omega (arith, h)) by_end early))

    by : net.driven i ≡ true → (o : Option ℕ) → map.get st.bends i ≡ o → (volts net (pairs ps) next (Some i) ≡ voltage (line_at st.lines.items (Some i)) next) ⊎ Bends net next
    by driven None e = goes_on driven (λ d f. absurd (no_tick d (sym e ∙ f)))
    by driven (Some t) e = ⊎_elim
        (λ (same : t ≡ next). inr (bends_there net st before next end i steady by_end h known.0 driven (e ∙ ap Some same)))
        (λ (n : t ≢ next). goes_on driven (λ d f. let same = same_tick t d (sym e ∙ f) in let least = frontier i d f in omega (arith, same, least, n)))
        (cases_eq t next)

-- the tick for which a device or a node waits is an event tick
pub event_there : (net : Net) (from : ℕ) (ps : List (List Line)) (st : Stage) (before next end : ℕ) → IsNet net → IsSteady net st before end → IsFrontier st.dues next → IsFrontier st.bends next → next ≤ end → PiecesGo net from ps st.lines.items → from ≤ before → before < next →
    Waits st.dues next ⊎ Waits st.bends next → IsEventTick net (pairs ps) from next
event_there net from ps st before next end is steady dues bends by_end go first h waits = inr (
  omega (arith, first, h),
  ⊎_elim
      (λ (due : Waits st.dues next).
      let k : ℕ = due.0 in
      let inside : k < net.devices = steady.due_inside k next due.1 in
      let ends = end_or_bend net from ps st before next end is steady bends by_end go h in
      ⊎_elim
      (λ (a : volts net (pairs ps) next (net.first k) ≡ voltage (line_at st.lines.items (net.first k)) next). ⊎_elim
      (λ (b : volts net (pairs ps) next (net.second k) ≡ voltage (line_at st.lines.items (net.second k)) next). ⊎_elim
      (λ (g : volts net (pairs ps) next (net.gate k) ≡ voltage (line_at st.lines.items (net.gate k)) next).
      let there : cells_in net (volts net (pairs ps) next) k ≡ cell_of net st.lines.items next k = same_cells net (volts net (pairs ps) next) (λ e. voltage (line_at st.lines.items e) next) k a b g ∙ of_lines net st.lines.items k next in
      let before_it : cells_in net (volts net (pairs ps) (next - 1)) k ≡ get_or st.cells.items k no_cells = cells_between net from ps st before next end (next - 1) is steady dues bends by_end go (omega (arith, h)) (omega (arith, h)) k inside in
      let knows : KnowsDue net k st.lines.items before end (get_or st.cells.items k no_cells) (map.get st.dues k) = of_none (KnowsDue net k st.lines.items before end (get_or st.cells.items k no_cells) (map.get st.dues k)) k (steady.stay k inside) in
      inl (record {
        device = k;
        inside = inside;
        before = next - 1;
        next = omega (arith, h);
        other = λ same. knows.leaves next due.1 (sym there ∙ same ∙ before_it);
      }))
      (λ (bend : Bends net next). inr bend)
      (ends (net.gate k) (is.gate k inside)))
      (λ (bend : Bends net next). inr bend)
      (ends (net.second k) (is.second k inside)))
      (λ (bend : Bends net next). inr bend)
      (ends (net.first k) (is.first k inside)))
      (λ (bend : Waits st.bends next). let known = steady.bend_driven bend.0 next bend.1 in inr (bends_there net st before next end bend.0 steady by_end h known.0 known.1 bend.1))
      waits,
)

-- there are as many below a later tick
pub ticks_below : (net : Net) (x : ℕ → ℕ → Fraction) (from n a b : ℕ) → a ≤ b → HasEventTicks net x from n a → HasEventTicks net x from n b
ticks_below net x from zero a b h ticks = tt
ticks_below net x from (suc n) a b h (t, lower, event, rest) = (t, omega (arith, lower, h), event, rest)

pub later_next : (st : Stage) (now next end : ℕ) → now < end → next ≤ end → AreLater st.dues now → AreLater st.bends now → (next < end → Waits st.dues next ⊎ Waits st.bends next) → now < next
later_next st now next end h by_end dues bends waits = ⊎_elim
    (λ (early : next < end). ⊎_elim (λ (d : Waits st.dues next). dues d.0 next d.1) (λ (b : Waits st.bends next). bends b.0 next b.1) (waits early))
    (λ (past : end ≤ next). omega (arith, past, h))
    (split next end)

pub ticks_more : (net : Net) (x : ℕ → ℕ → Fraction) (from n now next : ℕ) → now < next → IsEventTick net x from next → HasEventTicks net x from n (now + 1) → HasEventTicks net x from (n + 1) (next + 1)
ticks_more net x from n now next h event ticks = let e : n + 1 ≡ suc n = omega arith in rw e (next, omega arith, event, ticks_below net x from n (now + 1) next (omega (arith, h)) ticks)

-- ---- at a tick

-- into a free node no more flows than its few ends let through
pub held_small : (net : Net) (ls : List Line) (cs : List Cells) (bs rates : List ℤ) (now : ℕ) → IsNet net → CellsBut [] net ls cs now → AmpsAre net cs bs → RatesAre net bs rates → (i : ℕ) → i < net.nodes → net.free i ≡ true → unsigned_abs (get_or rates i (pos 0)) ≤ 10 ^ 15
held_small net ls cs bs rates now is cells amps are i inside free =
    let v : End → Fraction = (λ e. voltage (line_at ls e) now) in
    let same : inflows net i (λ k. get_or bs k (pos 0)) net.devices ≡ inflows net i (λ k. net.amps k (cells_in net v k)) net.devices =
    same_flows net i (λ k. get_or bs k (pos 0)) (λ k. net.amps k (cells_in net v k)) net.devices
    (λ k h. amps k h ∙ ap (net.amps k) (of_none (get_or cs k no_cells ≡ cell_of net ls now k) k (cells k h) ∙ sym (of_lines net ls k now))) in
    rw (are i inside, same) (is.held v i (sym (at_ground now)) free)
