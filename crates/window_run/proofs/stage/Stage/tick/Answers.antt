-- Each phase does its part.
use Rattle.std.proofs.Common.{◌≡◌, ◌<◌, ◌≤◌, ◌++◌, ℕ, List, [], length, map, refl, sym, ap, ◌∙◌, arith, inl, Vec, Global}
use Rattle.std.specs.List.{Contains}
use Rattle.std.specs.Prelude.{All}
use Rattle.std.specs.Vec.{with_items}
use Rattle.std.proofs.lemmas.List.{with_items_is}
use Rattle.semantics.specs.declared.line.Line.{Line}
use Rattle.node_ramps.specs.declared.ramp.Ramp.{Ramp}
use Rattle.window_run.specs.Net.{Cells, Net}
use Rattle.window_run.specs.Stage.{Arrives, CellsBut, DuesBut, IsFrom, Keeps, LineSameOrNear, SameFree}
use Rattle.window_run.specs.Circuit.{net_of}
use Rattle.window_run.proofs.Due.{cells_at_next, cells_kept, looks_cover}
use Rattle.window_run.proofs.Runs.{held_small}
use Rattle.window_run.proofs.Lines.{free_goes, free_nums, goes_but, nums_later, trust_kept, trust_later}
use Rattle.window_run.proofs.Noted.{from_inside, has_of, same_but_more}
use Rattle.window_run.proofs.Pieces.{go_same}
use Rattle.window_run.proofs.Waiting.{all_of}
use Rattle.window_run.proofs.stage.Stage.tick.Goals as goal

pub enter-requires-clause-todo : goal.enter-requires-clause-todo
enter-requires-clause-todo g c =
    let net : Net = net_of c.args.circuit.now in
    let before : ℕ = c.requires.arrives.0 in
    let early : before < c.args.now = c.requires.arrives.1 in
    let at : Arrives net c.args.self.now c.args.self.now.due.items c.args.self.now.bent.items before c.args.now c.args.end = c.requires.arrives.2 in
    let due : List ℕ = c.args.self.now.due.items in
    let base : c.extend_from_slice.new.self.items ≡ due = c.in_ok-extend_from_slice.ensures.items ∙ ap (λ xs. xs ++ c.deref.result.now) c.clear-2.ensures.items ∙ c.deref.ensures.value in
    let was : c.deref_mut.result.now ≡ c.args.self.now.lines.items = c.deref_mut.ensures.value in
    let free : SameFree net c.args.self.now.lines.items c.bend.new.lines = rw was at c.in_ok-bend.ensures.free in
    let from : IsFrom net due c.bend.new.looks.items = rw base at c.in_ok-bend.ensures.from in
    let kept : Keeps due c.bend.new.looks.items = rw base at c.in_ok-bend.ensures.kept in
    let lines : LineSameOrNear net c.args.self.now.lines.items c.bend.new.lines c.bend.new.looks.items = rw was at c.in_ok-bend.ensures.looks in
    let count : length c.bend.new.lines ≡ net.nodes = c.bend.auto.lines ∙ ap length was ∙ at.count_lines in
    let inside : (k : ℕ) → Contains c.bend.new.looks.items k → k < net.devices = from_inside net due c.bend.new.looks.items c.requires.net (λ k has. has_of (λ j. j < net.devices) due k c.requires.due has) from in
    let stays : DuesBut c.bend.new.looks.items net c.bend.new.lines c.args.now c.args.end c.args.self.now.cells.items c.args.self.now.dues =
    looks_cover net c.args.self.now.lines.items c.bend.new.lines before c.args.now c.args.end c.args.self.now.cells.items c.args.self.now.cells.items c.args.self.now.dues due c.bend.new.looks.items c.requires.net (omega (arith, early)) at.stay (λ k. inl refl) lines kept in
    rw c.deref-3.ensures.value (all_of (λ k. k < net.devices) c.bend.new.looks.items inside)

pub enter-requires-clause-cells : goal.enter-requires-clause-cells
enter-requires-clause-cells g c =
    let net : Net = net_of c.args.circuit.now in
    let before : ℕ = c.requires.arrives.0 in
    let early : before < c.args.now = c.requires.arrives.1 in
    let at : Arrives net c.args.self.now c.args.self.now.due.items c.args.self.now.bent.items before c.args.now c.args.end = c.requires.arrives.2 in
    let due : List ℕ = c.args.self.now.due.items in
    let base : c.extend_from_slice.new.self.items ≡ due = c.in_ok-extend_from_slice.ensures.items ∙ ap (λ xs. xs ++ c.deref.result.now) c.clear-2.ensures.items ∙ c.deref.ensures.value in
    let was : c.deref_mut.result.now ≡ c.args.self.now.lines.items = c.deref_mut.ensures.value in
    let free : SameFree net c.args.self.now.lines.items c.bend.new.lines = rw was at c.in_ok-bend.ensures.free in
    let from : IsFrom net due c.bend.new.looks.items = rw base at c.in_ok-bend.ensures.from in
    let kept : Keeps due c.bend.new.looks.items = rw base at c.in_ok-bend.ensures.kept in
    let lines : LineSameOrNear net c.args.self.now.lines.items c.bend.new.lines c.bend.new.looks.items = rw was at c.in_ok-bend.ensures.looks in
    let count : length c.bend.new.lines ≡ net.nodes = c.bend.auto.lines ∙ ap length was ∙ at.count_lines in
    let inside : (k : ℕ) → Contains c.bend.new.looks.items k → k < net.devices = from_inside net due c.bend.new.looks.items c.requires.net (λ k has. has_of (λ j. j < net.devices) due k c.requires.due has) from in
    let stays : DuesBut c.bend.new.looks.items net c.bend.new.lines c.args.now c.args.end c.args.self.now.cells.items c.args.self.now.dues =
    looks_cover net c.args.self.now.lines.items c.bend.new.lines before c.args.now c.args.end c.args.self.now.cells.items c.args.self.now.cells.items c.args.self.now.dues due c.bend.new.looks.items c.requires.net (omega (arith, early)) at.stay (λ k. inl refl) lines kept in
    let bent_lines : c.deref-4.result.now ≡ c.bend.new.lines = c.deref-4.ensures.value ∙ with_items_is c.args.self.now.lines c.bend.new.lines (c.bend.auto.lines ∙ c.deref_mut.ensures.len) in
    rw (c.deref-3.ensures.value, bent_lines, c.deref_mut-2.ensures.value)
    (cells_at_next net c.bend.new.lines c.args.now c.args.now c.args.end c.args.self.now.cells.items c.args.self.now.dues c.bend.new.looks.items (omega arith) (omega (arith, c.requires.order.0)) at.due_later stays)

pub turn-requires-clause-rates : goal.turn-requires-clause-rates
turn-requires-clause-rates g c =
    let net : Net = net_of c.args.circuit.now in
    let before : ℕ = c.requires.arrives.0 in
    let early : before < c.args.now = c.requires.arrives.1 in
    let at : Arrives net c.args.self.now c.args.self.now.due.items c.args.self.now.bent.items before c.args.now c.args.end = c.requires.arrives.2 in
    let due : List ℕ = c.args.self.now.due.items in
    let base : c.extend_from_slice.new.self.items ≡ due = c.in_ok-extend_from_slice.ensures.items ∙ ap (λ xs. xs ++ c.deref.result.now) c.clear-2.ensures.items ∙ c.deref.ensures.value in
    let was : c.deref_mut.result.now ≡ c.args.self.now.lines.items = c.deref_mut.ensures.value in
    let free : SameFree net c.args.self.now.lines.items c.bend.new.lines = rw was at c.in_ok-bend.ensures.free in
    let from : IsFrom net due c.bend.new.looks.items = rw base at c.in_ok-bend.ensures.from in
    let kept : Keeps due c.bend.new.looks.items = rw base at c.in_ok-bend.ensures.kept in
    let lines : LineSameOrNear net c.args.self.now.lines.items c.bend.new.lines c.bend.new.looks.items = rw was at c.in_ok-bend.ensures.looks in
    let count : length c.bend.new.lines ≡ net.nodes = c.bend.auto.lines ∙ ap length was ∙ at.count_lines in
    let inside : (k : ℕ) → Contains c.bend.new.looks.items k → k < net.devices = from_inside net due c.bend.new.looks.items c.requires.net (λ k has. has_of (λ j. j < net.devices) due k c.requires.due has) from in
    let stays : DuesBut c.bend.new.looks.items net c.bend.new.lines c.args.now c.args.end c.args.self.now.cells.items c.args.self.now.dues =
    looks_cover net c.args.self.now.lines.items c.bend.new.lines before c.args.now c.args.end c.args.self.now.cells.items c.args.self.now.cells.items c.args.self.now.dues due c.bend.new.looks.items c.requires.net (omega (arith, early)) at.stay (λ k. inl refl) lines kept in
    let bent_lines : c.deref_mut-5.result.now ≡ c.bend.new.lines = c.deref_mut-5.ensures.value ∙ with_items_is c.args.self.now.lines c.bend.new.lines (c.bend.auto.lines ∙ c.deref_mut.ensures.len) in
    let found_rates : c.deref-6.result.now ≡ c.enter.new.rates = c.deref-6.ensures.value ∙ with_items_is c.args.self.now.rates c.enter.new.rates (c.enter.auto.rates ∙ c.deref_mut-4.ensures.len) in
    let entered : c.deref-4.result.now ≡ c.bend.new.lines = c.deref-4.ensures.value ∙ with_items_is c.args.self.now.lines c.bend.new.lines (c.bend.auto.lines ∙ c.deref_mut.ensures.len) in
    rw found_rates (held_small net c.bend.new.lines c.enter.new.cells c.enter.new.amps c.enter.new.rates c.args.now c.requires.net (rw entered at c.in_ok-enter.ensures.cells) c.in_ok-enter.ensures.amps c.in_ok-enter.ensures.rates)

pub turn-requires-clause-nums : goal.turn-requires-clause-nums
turn-requires-clause-nums g c =
    let net : Net = net_of c.args.circuit.now in
    let before : ℕ = c.requires.arrives.0 in
    let early : before < c.args.now = c.requires.arrives.1 in
    let at : Arrives net c.args.self.now c.args.self.now.due.items c.args.self.now.bent.items before c.args.now c.args.end = c.requires.arrives.2 in
    let due : List ℕ = c.args.self.now.due.items in
    let base : c.extend_from_slice.new.self.items ≡ due = c.in_ok-extend_from_slice.ensures.items ∙ ap (λ xs. xs ++ c.deref.result.now) c.clear-2.ensures.items ∙ c.deref.ensures.value in
    let was : c.deref_mut.result.now ≡ c.args.self.now.lines.items = c.deref_mut.ensures.value in
    let free : SameFree net c.args.self.now.lines.items c.bend.new.lines = rw was at c.in_ok-bend.ensures.free in
    let from : IsFrom net due c.bend.new.looks.items = rw base at c.in_ok-bend.ensures.from in
    let kept : Keeps due c.bend.new.looks.items = rw base at c.in_ok-bend.ensures.kept in
    let lines : LineSameOrNear net c.args.self.now.lines.items c.bend.new.lines c.bend.new.looks.items = rw was at c.in_ok-bend.ensures.looks in
    let count : length c.bend.new.lines ≡ net.nodes = c.bend.auto.lines ∙ ap length was ∙ at.count_lines in
    let inside : (k : ℕ) → Contains c.bend.new.looks.items k → k < net.devices = from_inside net due c.bend.new.looks.items c.requires.net (λ k has. has_of (λ j. j < net.devices) due k c.requires.due has) from in
    let stays : DuesBut c.bend.new.looks.items net c.bend.new.lines c.args.now c.args.end c.args.self.now.cells.items c.args.self.now.dues =
    looks_cover net c.args.self.now.lines.items c.bend.new.lines before c.args.now c.args.end c.args.self.now.cells.items c.args.self.now.cells.items c.args.self.now.dues due c.bend.new.looks.items c.requires.net (omega (arith, early)) at.stay (λ k. inl refl) lines kept in
    let bent_lines : c.deref_mut-5.result.now ≡ c.bend.new.lines = c.deref_mut-5.ensures.value ∙ with_items_is c.args.self.now.lines c.bend.new.lines (c.bend.auto.lines ∙ c.deref_mut.ensures.len) in
    let found_rates : c.deref-6.result.now ≡ c.enter.new.rates = c.deref-6.ensures.value ∙ with_items_is c.args.self.now.rates c.enter.new.rates (c.enter.auto.rates ∙ c.deref_mut-4.ensures.len) in
    rw bent_lines (free_nums net c.args.self.now.lines.items c.bend.new.lines c.args.now free (nums_later net c.args.self.now.lines.items before c.args.now c.args.end at.count_lines (omega (arith, early)) at.lines at.slow at.nums))

pub turn-requires-clause-pieces : goal.turn-requires-clause-pieces
turn-requires-clause-pieces g c =
    let net : Net = net_of c.args.circuit.now in
    let before : ℕ = c.requires.arrives.0 in
    let early : before < c.args.now = c.requires.arrives.1 in
    let at : Arrives net c.args.self.now c.args.self.now.due.items c.args.self.now.bent.items before c.args.now c.args.end = c.requires.arrives.2 in
    let due : List ℕ = c.args.self.now.due.items in
    let base : c.extend_from_slice.new.self.items ≡ due = c.in_ok-extend_from_slice.ensures.items ∙ ap (λ xs. xs ++ c.deref.result.now) c.clear-2.ensures.items ∙ c.deref.ensures.value in
    let was : c.deref_mut.result.now ≡ c.args.self.now.lines.items = c.deref_mut.ensures.value in
    let free : SameFree net c.args.self.now.lines.items c.bend.new.lines = rw was at c.in_ok-bend.ensures.free in
    let from : IsFrom net due c.bend.new.looks.items = rw base at c.in_ok-bend.ensures.from in
    let kept : Keeps due c.bend.new.looks.items = rw base at c.in_ok-bend.ensures.kept in
    let lines : LineSameOrNear net c.args.self.now.lines.items c.bend.new.lines c.bend.new.looks.items = rw was at c.in_ok-bend.ensures.looks in
    let count : length c.bend.new.lines ≡ net.nodes = c.bend.auto.lines ∙ ap length was ∙ at.count_lines in
    let inside : (k : ℕ) → Contains c.bend.new.looks.items k → k < net.devices = from_inside net due c.bend.new.looks.items c.requires.net (λ k has. has_of (λ j. j < net.devices) due k c.requires.due has) from in
    let stays : DuesBut c.bend.new.looks.items net c.bend.new.lines c.args.now c.args.end c.args.self.now.cells.items c.args.self.now.dues =
    looks_cover net c.args.self.now.lines.items c.bend.new.lines before c.args.now c.args.end c.args.self.now.cells.items c.args.self.now.cells.items c.args.self.now.dues due c.bend.new.looks.items c.requires.net (omega (arith, early)) at.stay (λ k. inl refl) lines kept in
    let bent_lines : c.deref_mut-5.result.now ≡ c.bend.new.lines = c.deref_mut-5.ensures.value ∙ with_items_is c.args.self.now.lines c.bend.new.lines (c.bend.auto.lines ∙ c.deref_mut.ensures.len) in
    let found_rates : c.deref-6.result.now ≡ c.enter.new.rates = c.deref-6.ensures.value ∙ with_items_is c.args.self.now.rates c.enter.new.rates (c.enter.auto.rates ∙ c.deref_mut-4.ensures.len) in
    rw bent_lines (go_same net c.args.from (map (λ (v : Vec Ramp Global). v.items) c.args.pieces.now) c.args.self.now.lines.items c.bend.new.lines free c.requires.pieces)

pub turn-requires-clause-todo : goal.turn-requires-clause-todo
turn-requires-clause-todo g c =
    let net : Net = net_of c.args.circuit.now in
    let before : ℕ = c.requires.arrives.0 in
    let early : before < c.args.now = c.requires.arrives.1 in
    let at : Arrives net c.args.self.now c.args.self.now.due.items c.args.self.now.bent.items before c.args.now c.args.end = c.requires.arrives.2 in
    let due : List ℕ = c.args.self.now.due.items in
    let base : c.extend_from_slice.new.self.items ≡ due = c.in_ok-extend_from_slice.ensures.items ∙ ap (λ xs. xs ++ c.deref.result.now) c.clear-2.ensures.items ∙ c.deref.ensures.value in
    let was : c.deref_mut.result.now ≡ c.args.self.now.lines.items = c.deref_mut.ensures.value in
    let free : SameFree net c.args.self.now.lines.items c.bend.new.lines = rw was at c.in_ok-bend.ensures.free in
    let from : IsFrom net due c.bend.new.looks.items = rw base at c.in_ok-bend.ensures.from in
    let kept : Keeps due c.bend.new.looks.items = rw base at c.in_ok-bend.ensures.kept in
    let lines : LineSameOrNear net c.args.self.now.lines.items c.bend.new.lines c.bend.new.looks.items = rw was at c.in_ok-bend.ensures.looks in
    let count : length c.bend.new.lines ≡ net.nodes = c.bend.auto.lines ∙ ap length was ∙ at.count_lines in
    let inside : (k : ℕ) → Contains c.bend.new.looks.items k → k < net.devices = from_inside net due c.bend.new.looks.items c.requires.net (λ k has. has_of (λ j. j < net.devices) due k c.requires.due has) from in
    let stays : DuesBut c.bend.new.looks.items net c.bend.new.lines c.args.now c.args.end c.args.self.now.cells.items c.args.self.now.dues =
    looks_cover net c.args.self.now.lines.items c.bend.new.lines before c.args.now c.args.end c.args.self.now.cells.items c.args.self.now.cells.items c.args.self.now.dues due c.bend.new.looks.items c.requires.net (omega (arith, early)) at.stay (λ k. inl refl) lines kept in
    let bent_lines : c.deref_mut-5.result.now ≡ c.bend.new.lines = c.deref_mut-5.ensures.value ∙ with_items_is c.args.self.now.lines c.bend.new.lines (c.bend.auto.lines ∙ c.deref_mut.ensures.len) in
    let found_rates : c.deref-6.result.now ≡ c.enter.new.rates = c.deref-6.ensures.value ∙ with_items_is c.args.self.now.rates c.enter.new.rates (c.enter.auto.rates ∙ c.deref_mut-4.ensures.len) in
    rw (c.deref-5.ensures.value, bent_lines, found_rates) (goes_but net c.bend.new.lines c.args.self.now.rates.items c.enter.new.rates c.enter.new.turned.items (free_goes net c.args.self.now.lines.items c.bend.new.lines c.args.self.now.rates.items free at.goes) (rw c.deref_mut-4.ensures.value at c.in_ok-enter.ensures.turned))

pub look-requires-clause-todo : goal.look-requires-clause-todo
look-requires-clause-todo g c =
    let net : Net = net_of c.args.circuit.now in
    let before : ℕ = c.requires.arrives.0 in
    let early : before < c.args.now = c.requires.arrives.1 in
    let at : Arrives net c.args.self.now c.args.self.now.due.items c.args.self.now.bent.items before c.args.now c.args.end = c.requires.arrives.2 in
    let due : List ℕ = c.args.self.now.due.items in
    let base : c.extend_from_slice.new.self.items ≡ due = c.in_ok-extend_from_slice.ensures.items ∙ ap (λ xs. xs ++ c.deref.result.now) c.clear-2.ensures.items ∙ c.deref.ensures.value in
    let was : c.deref_mut.result.now ≡ c.args.self.now.lines.items = c.deref_mut.ensures.value in
    let free : SameFree net c.args.self.now.lines.items c.bend.new.lines = rw was at c.in_ok-bend.ensures.free in
    let from : IsFrom net due c.bend.new.looks.items = rw base at c.in_ok-bend.ensures.from in
    let kept : Keeps due c.bend.new.looks.items = rw base at c.in_ok-bend.ensures.kept in
    let lines : LineSameOrNear net c.args.self.now.lines.items c.bend.new.lines c.bend.new.looks.items = rw was at c.in_ok-bend.ensures.looks in
    let count : length c.bend.new.lines ≡ net.nodes = c.bend.auto.lines ∙ ap length was ∙ at.count_lines in
    let inside : (k : ℕ) → Contains c.bend.new.looks.items k → k < net.devices = from_inside net due c.bend.new.looks.items c.requires.net (λ k has. has_of (λ j. j < net.devices) due k c.requires.due has) from in
    let stays : DuesBut c.bend.new.looks.items net c.bend.new.lines c.args.now c.args.end c.args.self.now.cells.items c.args.self.now.dues =
    looks_cover net c.args.self.now.lines.items c.bend.new.lines before c.args.now c.args.end c.args.self.now.cells.items c.args.self.now.cells.items c.args.self.now.dues due c.bend.new.looks.items c.requires.net (omega (arith, early)) at.stay (λ k. inl refl) lines kept in
    rw c.deref-7.ensures.value (all_of (λ k. k < net.devices) c.turn.new.looks.items (from_inside net c.bend.new.looks.items c.turn.new.looks.items c.requires.net inside c.in_ok-turn.ensures.from))

pub look-requires-clause-cells : goal.look-requires-clause-cells
look-requires-clause-cells g c =
    let net : Net = net_of c.args.circuit.now in
    let before : ℕ = c.requires.arrives.0 in
    let early : before < c.args.now = c.requires.arrives.1 in
    let at : Arrives net c.args.self.now c.args.self.now.due.items c.args.self.now.bent.items before c.args.now c.args.end = c.requires.arrives.2 in
    let due : List ℕ = c.args.self.now.due.items in
    let base : c.extend_from_slice.new.self.items ≡ due = c.in_ok-extend_from_slice.ensures.items ∙ ap (λ xs. xs ++ c.deref.result.now) c.clear-2.ensures.items ∙ c.deref.ensures.value in
    let was : c.deref_mut.result.now ≡ c.args.self.now.lines.items = c.deref_mut.ensures.value in
    let free : SameFree net c.args.self.now.lines.items c.bend.new.lines = rw was at c.in_ok-bend.ensures.free in
    let from : IsFrom net due c.bend.new.looks.items = rw base at c.in_ok-bend.ensures.from in
    let kept : Keeps due c.bend.new.looks.items = rw base at c.in_ok-bend.ensures.kept in
    let lines : LineSameOrNear net c.args.self.now.lines.items c.bend.new.lines c.bend.new.looks.items = rw was at c.in_ok-bend.ensures.looks in
    let count : length c.bend.new.lines ≡ net.nodes = c.bend.auto.lines ∙ ap length was ∙ at.count_lines in
    let inside : (k : ℕ) → Contains c.bend.new.looks.items k → k < net.devices = from_inside net due c.bend.new.looks.items c.requires.net (λ k has. has_of (λ j. j < net.devices) due k c.requires.due has) from in
    let stays : DuesBut c.bend.new.looks.items net c.bend.new.lines c.args.now c.args.end c.args.self.now.cells.items c.args.self.now.dues =
    looks_cover net c.args.self.now.lines.items c.bend.new.lines before c.args.now c.args.end c.args.self.now.cells.items c.args.self.now.cells.items c.args.self.now.dues due c.bend.new.looks.items c.requires.net (omega (arith, early)) at.stay (λ k. inl refl) lines kept in
    let bent_lines : c.deref-4.result.now ≡ c.bend.new.lines = c.deref-4.ensures.value ∙ with_items_is c.args.self.now.lines c.bend.new.lines (c.bend.auto.lines ∙ c.deref_mut.ensures.len) in
    let bent_again : c.deref_mut-5.result.now ≡ c.bend.new.lines = c.deref_mut-5.ensures.value ∙ with_items_is c.args.self.now.lines c.bend.new.lines (c.bend.auto.lines ∙ c.deref_mut.ensures.len) in
    let turned_lines : c.deref-8.result.now ≡ c.turn.new.lines = c.deref-8.ensures.value ∙ with_items_is (with_items c.args.self.now.lines c.bend.new.lines) c.turn.new.lines (c.turn.auto.lines ∙ c.deref_mut-5.ensures.len) in
    let found_cells : c.deref-9.result.now ≡ c.enter.new.cells = c.deref-9.ensures.value ∙ with_items_is c.args.self.now.cells c.enter.new.cells (c.enter.auto.cells ∙ c.deref_mut-2.ensures.len) in
    rw (turned_lines, found_cells) (cells_kept net c.bend.new.lines c.turn.new.lines c.args.now c.enter.new.cells c.requires.net count (rw bent_again at c.in_ok-turn.ensures.volts) (rw bent_lines at c.in_ok-enter.ensures.cells))

pub look-requires-clause-dues : goal.look-requires-clause-dues
look-requires-clause-dues g c =
    let net : Net = net_of c.args.circuit.now in
    let before : ℕ = c.requires.arrives.0 in
    let early : before < c.args.now = c.requires.arrives.1 in
    let at : Arrives net c.args.self.now c.args.self.now.due.items c.args.self.now.bent.items before c.args.now c.args.end = c.requires.arrives.2 in
    let due : List ℕ = c.args.self.now.due.items in
    let base : c.extend_from_slice.new.self.items ≡ due = c.in_ok-extend_from_slice.ensures.items ∙ ap (λ xs. xs ++ c.deref.result.now) c.clear-2.ensures.items ∙ c.deref.ensures.value in
    let was : c.deref_mut.result.now ≡ c.args.self.now.lines.items = c.deref_mut.ensures.value in
    let free : SameFree net c.args.self.now.lines.items c.bend.new.lines = rw was at c.in_ok-bend.ensures.free in
    let from : IsFrom net due c.bend.new.looks.items = rw base at c.in_ok-bend.ensures.from in
    let kept : Keeps due c.bend.new.looks.items = rw base at c.in_ok-bend.ensures.kept in
    let lines : LineSameOrNear net c.args.self.now.lines.items c.bend.new.lines c.bend.new.looks.items = rw was at c.in_ok-bend.ensures.looks in
    let count : length c.bend.new.lines ≡ net.nodes = c.bend.auto.lines ∙ ap length was ∙ at.count_lines in
    let inside : (k : ℕ) → Contains c.bend.new.looks.items k → k < net.devices = from_inside net due c.bend.new.looks.items c.requires.net (λ k has. has_of (λ j. j < net.devices) due k c.requires.due has) from in
    let stays : DuesBut c.bend.new.looks.items net c.bend.new.lines c.args.now c.args.end c.args.self.now.cells.items c.args.self.now.dues =
    looks_cover net c.args.self.now.lines.items c.bend.new.lines before c.args.now c.args.end c.args.self.now.cells.items c.args.self.now.cells.items c.args.self.now.dues due c.bend.new.looks.items c.requires.net (omega (arith, early)) at.stay (λ k. inl refl) lines kept in
    let bent_lines : c.deref_mut-5.result.now ≡ c.bend.new.lines = c.deref_mut-5.ensures.value ∙ with_items_is c.args.self.now.lines c.bend.new.lines (c.bend.auto.lines ∙ c.deref_mut.ensures.len) in
    let turned_lines : c.deref-8.result.now ≡ c.turn.new.lines = c.deref-8.ensures.value ∙ with_items_is (with_items c.args.self.now.lines c.bend.new.lines) c.turn.new.lines (c.turn.auto.lines ∙ c.deref_mut-5.ensures.len) in
    let found_cells : c.deref-9.result.now ≡ c.enter.new.cells = c.deref-9.ensures.value ∙ with_items_is c.args.self.now.cells c.enter.new.cells (c.enter.auto.cells ∙ c.deref_mut-2.ensures.len) in
    rw (c.deref-7.ensures.value, turned_lines, found_cells)
    (looks_cover net c.bend.new.lines c.turn.new.lines c.args.now c.args.now c.args.end c.args.self.now.cells.items c.enter.new.cells c.args.self.now.dues c.bend.new.looks.items c.turn.new.looks.items c.requires.net (omega arith) stays
    (same_but_more c.bend.new.looks.items c.turn.new.looks.items c.args.self.now.cells.items c.enter.new.cells c.in_ok-turn.ensures.kept (rw (c.deref-3.ensures.value, c.deref_mut-2.ensures.value) at c.in_ok-enter.ensures.others))
    (rw bent_lines at c.in_ok-turn.ensures.looks) c.in_ok-turn.ensures.kept)

pub returns-clause-pieces : goal.returns-clause-pieces
returns-clause-pieces g c =
    let turned_is = with_items_is (with_items c.args.self.now.lines c.bend.new.lines) c.turn.new.lines (c.turn.auto.lines ∙ c.deref_mut-5.ensures.len) in
    rw turned_is c.in_ok-turn.ensures.pieces

pub returns-clause-steady : goal.returns-clause-steady
returns-clause-steady g c =
    let net : Net = net_of c.args.circuit.now in
    let before : ℕ = c.requires.arrives.0 in
    let early : before < c.args.now = c.requires.arrives.1 in
    let at : Arrives net c.args.self.now c.args.self.now.due.items c.args.self.now.bent.items before c.args.now c.args.end = c.requires.arrives.2 in
    let due : List ℕ = c.args.self.now.due.items in
    let base : c.extend_from_slice.new.self.items ≡ due = c.in_ok-extend_from_slice.ensures.items ∙ ap (λ xs. xs ++ c.deref.result.now) c.clear-2.ensures.items ∙ c.deref.ensures.value in
    let was : c.deref_mut.result.now ≡ c.args.self.now.lines.items = c.deref_mut.ensures.value in
    let free : SameFree net c.args.self.now.lines.items c.bend.new.lines = rw was at c.in_ok-bend.ensures.free in
    let from : IsFrom net due c.bend.new.looks.items = rw base at c.in_ok-bend.ensures.from in
    let kept : Keeps due c.bend.new.looks.items = rw base at c.in_ok-bend.ensures.kept in
    let lines : LineSameOrNear net c.args.self.now.lines.items c.bend.new.lines c.bend.new.looks.items = rw was at c.in_ok-bend.ensures.looks in
    let count : length c.bend.new.lines ≡ net.nodes = c.bend.auto.lines ∙ ap length was ∙ at.count_lines in
    let inside : (k : ℕ) → Contains c.bend.new.looks.items k → k < net.devices = from_inside net due c.bend.new.looks.items c.requires.net (λ k has. has_of (λ j. j < net.devices) due k c.requires.due has) from in
    let stays : DuesBut c.bend.new.looks.items net c.bend.new.lines c.args.now c.args.end c.args.self.now.cells.items c.args.self.now.dues =
    looks_cover net c.args.self.now.lines.items c.bend.new.lines before c.args.now c.args.end c.args.self.now.cells.items c.args.self.now.cells.items c.args.self.now.dues due c.bend.new.looks.items c.requires.net (omega (arith, early)) at.stay (λ k. inl refl) lines kept in
    let bent_lines : c.deref_mut-5.result.now ≡ c.bend.new.lines = c.deref_mut-5.ensures.value ∙ with_items_is c.args.self.now.lines c.bend.new.lines (c.bend.auto.lines ∙ c.deref_mut.ensures.len) in
    let turned_lines : c.deref-8.result.now ≡ c.turn.new.lines = c.deref-8.ensures.value ∙ with_items_is (with_items c.args.self.now.lines c.bend.new.lines) c.turn.new.lines (c.turn.auto.lines ∙ c.deref_mut-5.ensures.len) in
    let found_cells : c.deref-9.result.now ≡ c.enter.new.cells = c.deref-9.ensures.value ∙ with_items_is c.args.self.now.cells c.enter.new.cells (c.enter.auto.cells ∙ c.deref_mut-2.ensures.len) in
    let found_rates : c.deref-6.result.now ≡ c.enter.new.rates = c.deref-6.ensures.value ∙ with_items_is c.args.self.now.rates c.enter.new.rates (c.enter.auto.rates ∙ c.deref_mut-4.ensures.len) in
    let lines_is = with_items_is (with_items c.args.self.now.lines c.bend.new.lines) c.turn.new.lines (c.turn.auto.lines ∙ c.deref_mut-5.ensures.len) in
    let cells_is = with_items_is c.args.self.now.cells c.enter.new.cells (c.enter.auto.cells ∙ c.deref_mut-2.ensures.len) in
    let amps_is = with_items_is c.args.self.now.amps c.enter.new.amps (c.enter.auto.amps ∙ c.deref_mut-3.ensures.len) in
    let rates_is = with_items_is c.args.self.now.rates c.enter.new.rates (c.enter.auto.rates ∙ c.deref_mut-4.ensures.len) in
    record {
      count_lines = ap length lines_is ∙ c.turn.auto.lines ∙ ap length bent_lines ∙ count;
      count_rates = ap length rates_is ∙ c.enter.auto.rates ∙ ap length c.deref_mut-4.ensures.value ∙ at.count_rates;
      count_cells = ap length cells_is ∙ c.enter.auto.cells ∙ ap length c.deref_mut-2.ensures.value ∙ at.count_cells;
      count_amps = ap length amps_is ∙ c.enter.auto.amps ∙ ap length c.deref_mut-3.ensures.value ∙ at.count_amps;
      lines = rw lines_is c.in_ok-turn.ensures.lines;
      nums = rw lines_is c.in_ok-turn.ensures.nums;
      slow = rw lines_is c.in_ok-turn.ensures.slow;
      amps = rw (cells_is, amps_is) c.in_ok-enter.ensures.amps;
      flows = rw (amps_is, rates_is) c.in_ok-enter.ensures.rates;
      goes = rw (lines_is, rates_is) (rw found_rates at c.in_ok-turn.ensures.todo);
      stay = rw (lines_is, cells_is) (rw (turned_lines, found_cells) at c.in_ok-look.ensures.dues);
      trust = rw lines_is (trust_kept net c.bend.new.lines c.turn.new.lines c.args.now c.args.end c.bend.new.bends (rw bent_lines at c.in_ok-turn.ensures.driven) c.in_ok-bend.ensures.bends);
      due_later = c.in_ok-look.ensures.later;
      bend_later = c.in_ok-bend.ensures.later;
      due_inside = c.in_ok-look.ensures.inside;
      bend_driven = c.in_ok-bend.ensures.driven;
    }
