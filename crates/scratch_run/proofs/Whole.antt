-- A window over all free nodes from tick 0 to the stop gives the run.
use Rattle.std.proofs.Common.{◌≡◌, ℕ, zero, suc, ◌+◌, ◌<◌, ◌≤◌, Bool, true, false, List, [], ◌∷◌, length, map, get_or, refl, sym, ap, ◌∙◌, arith, inl, inr, subst}
use Rattle.std.specs.Prelude.{sum_by}
use Rattle.std.specs.List.{All, Contains}
use Rattle.std.proofs.lemmas.Bool.{cases_lt, false_from_ne_true, false≢true}
use Rattle.std.proofs.lemmas.List.Elements.{Contains-get_or}
use Rattle.semantics.specs.declared.fraction.Fraction.{Fraction}
use Rattle.semantics.specs.Deck.{DeckValue, capacity}
use Rattle.semantics.specs.Neighbours.{is_free}
use Rattle.semantics.specs.Record.{IsRunTo, NoFaultBelow, Record, Starts, place_among, start_pair}
use Rattle.semantics.specs.Wave.{begins, wave}
use Rattle.histories.specs.Piece.{PieceValue}
use Rattle.histories.specs.Record.{RecordValue, keeps, pair_at}
use Rattle.histories.specs.Track.{line_of}
use Rattle.circuit_model.specs.declared.node_kind.NodeKind.TheVariants.{Free}
use Rattle.circuit_model.specs.Numbers.{CircuitValue, kind_at, kind_of, name_at}
use Rattle.circuit_model.specs.Records.{IsRecordOf, record_of}
use Rattle.circuit_model.proofs.NodeKinds.{kind_free, kind_here}
use Rattle.record_laws.proofs.Stale.{turn_begins}
use Rattle.record_laws.proofs.Unique.{unique}
use Rattle.record_waves.specs.RunRecord.{IsRunOf}
use Rattle.window_run.specs.Circuit.{IsNumbered, free_numbers}
use Rattle.window_run.specs.Events.{HasEvents}
use Rattle.window_run.specs.declared.stop.Stop.{Stop}
use Rattle.window_run.specs.declared.stop.Stop.TheVariants.{Budget, End}
use Rattle.window_run.specs.declared.task.Task.{Task}
use Rattle.window_run.specs.Task.{AreFreeNodes, EachTurns, HasPieces, IsMended, IsTurn, after, circuit_of, deck_of, pairs_after}
use Rattle.window_run.specs.Window.{AreDifferent, WindowValue, ramp_count, with_pieces}
use Rattle.window_run.proofs.ByNames.{free_number, record_at}
use Rattle.window_run.proofs.Mended.{fault_named, free_inside}
use Rattle.scratch_run.specs.Splices.{HasPut, Takes}
use Rattle.scratch_run.specs.Starts.{HasFirst}
use Rattle.scratch_run.specs.Waves.{wave_lines}
use Rattle.scratch_run.proofs.Counted.{BeginEach, all_few, in_wave}
use Rattle.window_run.proofs.FreeNumbers.{numbers_all, numbers_different, numbers_free}
use Rattle.scratch_run.proofs.Put.{as_before}

-- ---- the beginning

pub recorded : (c : CircuitValue) (r : RecordValue) → r.stop ≡ c.deck.stop → HasFirst c r (length c.names) → IsRecordOf c r.stop (keeps r)
recorded c r stop first = record { stop = stop; keeps_free = λ i free. (first i (free_inside c i free) free).kept }

pub first_den : (c : CircuitValue) (r : RecordValue) (i : ℕ) → HasFirst c r (length c.names) → kind_at c i ≡ Free → (pair_at r i 0).den ≡ capacity c.deck (name_at c i)
first_den c r i first free = ap (λ (v : Fraction). v.den) (first i (free_inside c i free) free).first

pub begun : (c : CircuitValue) (r : RecordValue) → IsNumbered c → HasFirst c r (length c.names) → Starts c.deck (record_of c (pair_at r))
begun c r numbered first n free =
    let at = free_number c n numbered free in
    ap (λ m. record_of c (pair_at r) m 0) (sym at.name) ∙ record_at c (pair_at r) at.node 0 numbered.names at.inside
    ∙ (first at.node at.inside at.free).first ∙ ap (start_pair c.deck) at.name

-- at a stop of 0 the beginning is all
pub run_at_once : (c : CircuitValue) (r : RecordValue) → IsNumbered c → c.deck.stop ≡ 0 → r.stop ≡ c.deck.stop → HasFirst c r (length c.names) → IsRunOf c r
run_at_once c r numbered none stop first = record {
  recorded = recorded c r stop first;
  run = subst (λ t. IsRunTo c.deck (record_of c (pair_at r)) t) (sym none) (unique c.deck (record_of c (pair_at r)) 0 (omega arith) (begun c r numbered first) (λ n s h. absurd (omega (arith, h))));
}

-- ---- the task

pub whole_nodes : (task : Task) → task.nodes.items ≡ free_numbers (circuit_of task) → HasFirst (circuit_of task) task.past (length (circuit_of task).names) → task.from ≡ 0 → AreFreeNodes task
whole_nodes task numbers first from = record {
  free = λ k d h. numbers_free (circuit_of task) (get_or task.nodes.items k d) (subst (λ ns. Contains ns (get_or task.nodes.items k d)) numbers (Contains-get_or task.nodes.items k d h));
  different = subst AreDifferent (sym numbers) (numbers_different (circuit_of task));
  all = λ i free. subst (λ ns. Contains ns i) (sym numbers) (numbers_all (circuit_of task) i free);
  den = λ i free. subst (λ k. (pair_at task.past i k).den ≡ capacity (deck_of task) (name_at (circuit_of task) i)) (sym from) (first_den (circuit_of task) task.past i first free);
}

node_in : (ps : List PieceValue) (k : ℕ) (p : PieceValue) → k < length ps → Contains (map (λ (q : PieceValue). q.node) ps) (get_or ps k p).node
node_in [] k p h = absurd (omega (arith, h))
node_in (q ∷ ps) zero p h = (0, omega arith, refl)
node_in (q ∷ ps) (suc k) p h = let rest = node_in ps k p (omega (arith, h)) in (suc rest.0, omega (arith, rest.1), rest.2)

piece_free : (task : Task) (w : WindowValue) → task.nodes.items ≡ free_numbers (circuit_of task) → HasPieces task w → (k : ℕ) (p : PieceValue) → k < length w.pieces → kind_at (circuit_of task) (get_or w.pieces k p).node ≡ Free
piece_free task w numbers pieces k p h = numbers_free (circuit_of task) (get_or w.pieces k p).node (subst (λ ns. Contains ns (get_or w.pieces k p).node) (pieces.nodes ∙ numbers) (node_in w.pieces k p h))

-- its pieces can be put into its record
pub takes : (task : Task) (w : WindowValue) → task.nodes.items ≡ free_numbers (circuit_of task) → IsRecordOf (circuit_of task) task.past.stop (keeps task.past) → HasPieces task w → w.until ≤ (deck_of task).stop → All (Takes task.past) w.pieces
takes task w numbers is pieces to k p h = record {
  kept = is.keeps_free (get_or w.pieces k p).node (piece_free task w numbers pieces k p h);
  until = (let e = (pieces.ends k p h).1 in let s = is.stop in omega (arith, e, s, to));
}

-- ---- the end

-- there are no more event ticks below a tick than ticks
ticks_few : (d : DeckValue) (x : Record) (from n below : ℕ) → HasEvents d x from n below → n ≤ below
ticks_few d x from zero below has = omega arith
ticks_few d x from (suc n) below has = let fewer = ticks_few d x from n has.0 has.3 in omega (arith, fewer, has.1)

-- a budget of one more than there are ticks lasts to the stop
pub to_stop : (d : DeckValue) (x : Record) (why : Stop) (stop until : ℕ) → until ≤ stop → (why ≡ End → until ≡ stop) → (why ≡ Budget → HasEvents d x 0 (stop + 1) until) → until ≡ stop
to_stop d x End stop until up_to end budget = end refl
to_stop d x Budget stop until up_to end budget = let few = ticks_few d x 0 (stop + 1) until (budget refl) in absurd (omega (arith, few, up_to))

-- the record with the pieces is the run
pub is_run : (task : Task) (w : WindowValue) → IsNumbered (circuit_of task) → AreFreeNodes task → HasPieces task w → IsMended task w → HasFirst (circuit_of task) task.past (length (circuit_of task).names) → task.from ≡ 0 → w.from ≡ 0 → w.until ≡ (deck_of task).stop → IsRunTo (deck_of task) (after task w) (deck_of task).stop
is_run task w numbered nodes pieces mended first from w_from to = unique d (after task w) d.stop (omega arith) starts none
  where
    d : DeckValue
    d = deck_of task

    starts : Starts d (after task w)
    starts n free =
        as_before (pair_at task.past) w.pieces (place_among (circuit_of task).names n) 0 (λ k p h. omega arith)
        ∙ begun (circuit_of task) task.past numbered first n free

    none : NoFaultBelow d (after task w) d.stop
    none n t h = false_from_ne_true _ (λ fault.
        false≢true (sym (mended n t (fault_named (circuit_of task) (pairs_after task w) task.nodes.items n t numbered nodes.all fault) (omega (arith, from)) (omega (arith, h, to))) ∙ fault))

-- and so is the record that they were put into
pub run_put : (task : Task) (w : WindowValue) (r : RecordValue) → task.past.stop ≡ (deck_of task).stop → HasFirst (circuit_of task) task.past (length (circuit_of task).names) → HasPut task.past r w.pieces → IsRunTo (deck_of task) (after task w) (deck_of task).stop → IsRunOf (circuit_of task) r
run_put task w r stop first put run = record {
  recorded = record { stop = put.stop ∙ stop; keeps_free = λ i free. put.kept i ∙ (first i (free_inside (circuit_of task) i free) free).kept };
  run = λ n t free h. put.pairs (place_among (circuit_of task).names n) t (omega (arith, h, stop)) ∙ run n t free h;
}

-- ---- the count

name_free : (c : CircuitValue) (i : ℕ) → kind_at c i ≡ Free → is_free c.deck (name_at c i) ≡ true
name_free c i free = kind_free c.deck (name_at c i) (sym (kind_here c i (free_inside c i free)) ∙ free)

at_once : (d : DeckValue) (n : List ℕ) → begins d 0 n ≡ true
unfolding begins
at_once d n = refl

-- each line of a piece begins where one of the wave does
piece_begins : (task : Task) (w : WindowValue) (p : PieceValue) → kind_at (circuit_of task) p.node ≡ Free → (line_of p.lines 0).start ≡ 0 → IsRunTo (deck_of task) (after task w) (deck_of task).stop → w.until ≡ (deck_of task).stop
    → ((j : ℕ) → 0 < j → j < length p.lines → IsTurn task w p (line_of p.lines j).start) → BeginEach (deck_of task) (name_at (circuit_of task) p.node) p.lines
piece_begins task w p free start run to turns zero h = let first : begins (deck_of task) 0 (name_at (circuit_of task) p.node) ≡ true = at_once (deck_of task) (name_at (circuit_of task) p.node) in rw start first
piece_begins task w p free start run to turns (suc j) h =
    let turn = turns (suc j) (omega arith) h in
    let n = name_at (circuit_of task) p.node in
    let is = name_free (circuit_of task) p.node free in
    let early = turn.early in
    sym (turn_begins (deck_of task) (after task w) n (line_of p.lines (suc j)).start is (record {
      own = λ s below. run n s is (omega (arith, below, early, to));
      near = λ m s free' joined below. run m s free' (omega (arith, below, early, to));
    })) ∙ turn.turn

-- the pieces have no more ramps than the waves have lines
pub ramps_few : (task : Task) (w : WindowValue) → task.nodes.items ≡ free_numbers (circuit_of task) → 0 < (deck_of task).stop → w.from ≡ 0 → w.until ≡ (deck_of task).stop → HasPieces task w → EachTurns task w → IsRunTo (deck_of task) (after task w) (deck_of task).stop → ramp_count w.pieces ≤ wave_lines (circuit_of task)
unfolding wave_lines
ramps_few task w numbers some from to pieces turns run =
    let c = circuit_of task in
    let g : ℕ → ℕ = λ i. length (wave c.deck (name_at c i)) in
    let all = all_few g w.pieces (λ k p h. one k p h) in
    let same : sum_by g (map (λ (p : PieceValue). p.node) w.pieces) ≡ sum_by g (free_numbers c) = ap (sum_by g) (pieces.nodes ∙ numbers) in
    omega (arith, all, same)
  where
    one : (k : ℕ) (p : PieceValue) → k < length w.pieces → length (get_or w.pieces k p).lines ≤ length (wave (deck_of task) (name_at (circuit_of task) (get_or w.pieces k p).node))
    one k p h =
        let q : PieceValue = get_or w.pieces k p in
        let shape = pieces.shape k p h in
        let ends = pieces.ends k p h in
        let begin : (line_of q.lines 0).start ≡ 0 = shape.shape.lines.first ∙ ends.0 ∙ from in
        in_wave (deck_of task) (name_at (circuit_of task) q.node) q.lines some shape.shape.lines.rising
        (piece_begins task w q (piece_free task w numbers pieces k p h) begin run to (turns k p h))
        (λ j inside. early j q inside begin (turns k p h))
      where
        early : (j : ℕ) → (q : PieceValue) → j < length q.lines → (line_of q.lines 0).start ≡ 0 → ((i : ℕ) → 0 < i → i < length q.lines → IsTurn task w q (line_of q.lines i).start) → (line_of q.lines j).start < (deck_of task).stop
        early zero q inside begin turn = omega (arith, begin, some)
        early (suc j) q inside begin turn = let e = (turn (suc j) (omega arith) inside).early in omega (arith, e, to)
