-- What a window promises, from what was found by numbers.
use Rattle.std.proofs.Common.{◌≡◌, ◌≢◌, ℕ, zero, suc, ◌+◌, ◌-◌, ◌<◌, ◌≤◌, true, false, Bool, List, [], length, get_or, map, refl, sym, ap, ◌∙◌, arith, ⊎_elim, inl, inr, subst, unsigned_abs, ◌*◌, ◌^◌}
use Rattle.std.specs.Prelude.{sum_by}
use Rattle.std.specs.List.{All, Contains}
use Rattle.std.proofs.lemmas.Bool.{cases_Bool, cases_eq, false≢true}
use Rattle.std.proofs.lemmas.List.Elements.{All-map, Contains-get_or}
use Rattle.semantics.specs.declared.fraction.Fraction.{Fraction}
use Rattle.semantics.specs.declared.line.Line.{Line}
use Rattle.semantics.specs.Deck.{capacity}
use Rattle.semantics.specs.Pending.{IsBoundedAt}
use Rattle.semantics.specs.Record.{is_fault}
use Rattle.semantics.specs.Stale.{is_turn}
use Rattle.histories.specs.Piece.{PieceValue}
use Rattle.histories.specs.Piece as whole
use Rattle.histories.specs.Record.{pair_at}
use Rattle.histories.specs.Track.{line_of}
use Rattle.circuit_model.specs.declared.node_kind.NodeKind.TheVariants.{Free}
use Rattle.circuit_model.specs.Numbers.{CircuitValue, kind_at, name_at}
use Rattle.circuit_model.specs.Records.{record_of}
use Rattle.window_run.specs.Circuit.{IsNumbered, is_free_kind, net_of}
use Rattle.window_run.specs.Events.{HasEvents}
use Rattle.window_run.specs.Found.{Found}
use Rattle.window_run.specs.Net.{HasEventTicks, IsNet, IsRun, Net, charged, current_at}
use Rattle.window_run.specs.Pieces.{AreTurning, IsPiece, OnlyFree, line_count, pairs, piece_of}
use Rattle.window_run.specs.declared.task.Task.{Task}
use Rattle.window_run.specs.Task.{AreFreeNodes, EachTurns, HasPieces, IsMended, IsNoWorse, IsTurn, after, circuit_of, deck_of, pairs_after}
use Rattle.window_run.specs.Window.{AreDifferent, IsWindow, WindowValue, piece_value, ramp_count, with_pieces}
use Rattle.window_run.proofs.Events.{events}
use Rattle.window_run.proofs.Mended.{HaveDens, fault_named, faultless, free_inside, net_free, net_nodes, turn_there}
use Rattle.window_run.proofs.Same.{SameFrom, current_same, run_same, ticks_same}
use Rattle.window_run.proofs.Sources.{free_kind}
use Rattle.window_run.proofs.Spliced.{as_before, as_found, counted, nodes_are, ramps_are}
use Rattle.window_run.proofs.Turning.{in_shape, other_current}

module _ (task : Task) (until : ℕ) (ps : List (List Line)) (found : Found task until ps) where
  abbrev c : CircuitValue
  c = circuit_of task

  abbrev n : Net
  n = net_of (circuit_of task)

  kind : (i : ℕ) → n.free i ≡ true → kind_at c i ≡ Free
  unfolding net_of
  kind i free = free_kind (kind_at c i) free

  inside : (i : ℕ) → kind_at c i ≡ Free → i < n.nodes
  inside i free = rw (net_nodes c) (free_inside c i free)

  -- ---- the pieces are in shape

  pub shape_at : (i : ℕ) → kind_at c i ≡ Free → whole.IsPiece task.from until (piece_of ps i)
  shape_at i free =
      let turning = found.turning i (inside i free) (net_free c i free) in
      let bound = found.bounds i free in
      let e = found.first i free in
      in_shape n ps task.from until i turning.0 found.net (inside i free) (net_free c i free) found.run found.order turning.1 turning.2
      (subst (λ (v : Fraction). unsigned_abs v.num ≤ 10 ^ 21 + 10 ^ 15 * task.from) (sym e) bound.num)
      (subst (λ (v : Fraction). 1 ≤ v.den) (sym e) bound.den_low)
      (subst (λ (v : Fraction). v.den ≤ 10 ^ 12) (sym e) bound.den_high)

  node_free : (k d : ℕ) → k < length task.nodes.items → kind_at c (get_or task.nodes.items k d) ≡ Free
  node_free k d h = found.nodes.free k d h

  pub shapes : All (λ i. whole.IsPiece task.from until (piece_of ps i)) task.nodes.items
  shapes k d h = shape_at (get_or task.nodes.items k d) (node_free k d h)

  pub are_inside : All (λ i. i < length ps) task.nodes.items
  are_inside k d h = let i = inside (get_or task.nodes.items k d) (node_free k d h) in let e = found.count in omega (arith, i, e)

  -- ---- the record with them

  abbrev x : ℕ → ℕ → Fraction
  x = with_pieces (pair_at task.past) (map (piece_value task.from until ps) task.nodes.items)

  same_from : SameFrom n x (pairs ps) task.from until
  same_from i s free low high = ⊎_elim
      (λ (e : s ≡ task.from). subst (λ k. x i k ≡ pairs ps i k) (sym e) (as_before task.from until ps (pair_at task.past) task.nodes.items i task.from (omega arith) ∙ sym (found.first i (kind i free))))
      (λ (e : s ≢ task.from). as_found task.from until ps (pair_at task.past) task.nodes.items i s (found.nodes.all i (kind i free)) (omega (arith, low, e)) high)
      (cases_eq s task.from)

  run_x : IsRun n x task.from until
  run_x = run_same n x (pairs ps) task.from until same_from found.run

  den_after : (k i s : ℕ) → kind_at c i ≡ Free → s ≡ task.from + k → s ≤ until → (x i s).den ≡ capacity c.deck (name_at c i)
  den_after zero i s free e h =
      let at : task.from ≡ s = omega (arith, e) in
      subst (λ k. (x i k).den ≡ capacity c.deck (name_at c i)) at (ap (λ (v : Fraction). v.den) (as_before task.from until ps (pair_at task.past) task.nodes.items i task.from (omega arith)) ∙ found.nodes.den i free)
  den_after (suc k) i s free e h =
      let r : ℕ = task.from + k in
      let at : r + 1 ≡ s = omega (arith, e) in
      let old = den_after k i r free refl (omega (arith, e, h)) in
      subst (λ k. (x i k).den ≡ capacity c.deck (name_at c i)) at (ap (λ (v : Fraction). v.den) (run_x i r (inside i free) (net_free c i free) (omega arith) (omega (arith, e, h))) ∙ old)

  dens : HaveDens c x task.from until
  dens i s free low high = den_after (s - task.from) i s free (omega (arith, low)) high

  -- ---- the promises, of a window with these pieces

  pub mended : (w : WindowValue) → w.until ≡ until → w.pieces ≡ map (piece_value task.from until ps) task.nodes.items → IsMended task w
  mended w to is m t among low early = subst (λ qs. is_fault c.deck (record_of c (with_pieces (pair_at task.past) qs)) m t ≡ false) (sym is) (faultless c x task.from until t m found.numbered run_x dens low (omega (arith, early, to)))

  pub no_worse : (w : WindowValue) → IsNoWorse task w
  no_worse w m t other early fault = absurd (false≢true (sym other ∙ fault_named c (pairs_after task w) task.nodes.items m t found.numbered found.nodes.all fault))

  pub has_events : (w : WindowValue) (budget : ℕ) → w.until ≡ until → w.pieces ≡ map (piece_value task.from until ps) task.nodes.items → HasEventTicks n (pairs ps) task.from budget until → HasEvents (deck_of task) (after task w) task.from budget w.until
  has_events w budget to is ticks = subst (λ k. HasEvents c.deck (after task w) task.from budget k) (sym to) (subst (λ qs. HasEvents c.deck (record_of c (with_pieces (pair_at task.past) qs)) task.from budget until) (sym is) (events c x task.from budget until found.numbered (ticks_same n x (pairs ps) task.from until budget until same_from (omega arith) ticks)))

  pub has_pieces : (w : WindowValue) → w.from ≡ task.from → w.until ≡ until → w.pieces ≡ map (piece_value task.from until ps) task.nodes.items → HasPieces task w
  has_pieces w from to is = record {
    nodes = ap (λ qs. map (λ (p : PieceValue). p.node) qs) is ∙ nodes_are task.from until ps task.nodes.items;
    ends = subst (λ qs. All (λ (p : PieceValue). (p.from ≡ w.from) × (p.until ≡ w.until)) qs) (sym is) (All-map (λ (p : PieceValue). (p.from ≡ w.from) × (p.until ≡ w.until)) (piece_value task.from until ps) task.nodes.items (λ k d h. (sym from, sym to)));
    shape = subst (λ qs. All (λ (p : PieceValue). whole.IsPiece p.from p.until p.lines) qs) (sym is) (All-map (λ (p : PieceValue). whole.IsPiece p.from p.until p.lines) (piece_value task.from until ps) task.nodes.items shapes);
  }

  pub is_window : (w : WindowValue) → HasPieces task w → IsWindow w
  is_window w has = record { ends = has.ends; different = subst AreDifferent (sym has.nodes) found.nodes.different; shape = has.shape }

  turn_at : (w : WindowValue) (i : ℕ) → kind_at c i ≡ Free → w.until ≡ until → w.pieces ≡ map (piece_value task.from until ps) task.nodes.items → (j : ℕ) → 0 < j → j < length (piece_of ps i) → IsTurn task w (piece_value task.from until ps i) (line_of (piece_of ps i) j).start
  turn_at w i free to is zero some h = absurd (omega (arith, some))
  turn_at w i free to is (suc j) some h =
      let e : suc j ≡ j + 1 = omega arith in
      let turning = found.turning i (inside i free) (net_free c i free) in
      let other = other_current n ps task.from until i j turning.0 (inside i free) (net_free c i free) found.run turning.1 turning.2 (omega (arith, h)) in
      let before : ℕ = other.before in
      let start : (line_of (piece_of ps i) (suc j)).start ≡ before + 1 = ap (λ k. (line_of (piece_of ps i) k).start) e ∙ other.is in
      let early = other.early in
      let low = other.low in
      let turn : is_turn c.deck (record_of c x) (name_at c i) (before + 1) ≡ true = turn_there c x i before found.numbered free (λ same. other.other (
      sym (current_same n x (pairs ps) task.from until (before + 1) i same_from (omega (arith, low)) (omega (arith, early)))
      ∙ same ∙ current_same n x (pairs ps) task.from until before i same_from low (omega (arith, early)))) in
      let there : is_turn c.deck (record_of c x) (name_at c i) (line_of (piece_of ps i) (suc j)).start ≡ true = subst (λ k. is_turn c.deck (record_of c x) (name_at c i) k ≡ true) (sym start) turn in
      record {
        early = omega (arith, start, early, to);
        turn = subst (λ qs. is_turn c.deck (record_of c (with_pieces (pair_at task.past) qs)) (name_at c i) (line_of (piece_of ps i) (suc j)).start ≡ true) (sym is) there;
      }

  pub each_turns : (w : WindowValue) → w.until ≡ until → w.pieces ≡ map (piece_value task.from until ps) task.nodes.items → EachTurns task w
  each_turns w to is = subst (λ qs. All (λ (p : PieceValue). (j : ℕ) → 0 < j → j < length p.lines → IsTurn task w p (line_of p.lines j).start) qs) (sym is)
      (All-map (λ (p : PieceValue). (j : ℕ) → 0 < j → j < length p.lines → IsTurn task w p (line_of p.lines j).start) (piece_value task.from until ps) task.nodes.items (λ k d h. turn_at w (get_or task.nodes.items k d) (node_free k d h) to is))

  -- ---- the count

  no_lines : (i : ℕ) → (Contains task.nodes.items i → ⊥) → piece_of ps i ≡ []
  no_lines i none = found.only i (by (n.free i) refl)
    where
      by : (b : Bool) → n.free i ≡ b → n.free i ≡ false
      by false is = is
      by true is = absurd (none (found.nodes.all i (kind i is)))

  pub all_counted : (w : WindowValue) → w.pieces ≡ map (piece_value task.from until ps) task.nodes.items → line_count ps ≡ ramp_count w.pieces
  all_counted w is = counted ps task.nodes.items found.nodes.different are_inside no_lines ∙ sym (ap ramp_count is ∙ ramps_are task.from until ps task.nodes.items)
