use Rattle.std.proofs.Common.{◌∙◌, ap}
use Rattle.std.proofs.lemmas.Bool.{false≢true}
use Rattle.semantics.specs.Part.{Listed}
use Rattle.semantics.specs.Valid.{is_part}
use Rattle.device_tables.specs.Table.{is_small_grid}
use Rattle.deck_cards.specs.Causes.{part_limit}
use Rattle.deck_reader.proofs.TableLemmas.{is_fine, is_small}
use Rattle.deck_reader.proofs.table.Listed.into_part.Goals as goal

pub grid_of-requires : goal.grid_of-requires
grid_of-requires c =
    let t = c.self.inside in
    (is_fine t.gate.items t.drain.items t.amps.items c.self.invariant (ap (λ t. part_limit (Listed t.gate t.drain t.amps)) c.self.view_is ∙ c.requires)).gates

pub grid_of-requires-2 : goal.grid_of-requires-2
grid_of-requires-2 c =
    let t = c.self.inside in
    (is_fine t.gate.items t.drain.items t.amps.items c.self.invariant (ap (λ t. part_limit (Listed t.gate t.drain t.amps)) c.self.view_is ∙ c.requires)).drains

pub explicit-requires : goal.explicit-requires
explicit-requires c =
    let t = c.self.inside in
    let fine = is_fine t.gate.items t.drain.items t.amps.items c.self.invariant (ap (λ t. part_limit (Listed t.gate t.drain t.amps)) c.self.view_is ∙ c.requires) in
    record {
      gate = ap is_small_grid c.grid_of.ensures ∙ is_small t.gate.items fine.gates;
      drain = ap is_small_grid c.grid_of-2.ensures ∙ is_small t.drain.items fine.drains;
      amps = fine.few;
    }

pub unreachable-requires : goal.unreachable-requires
unreachable-requires c =
    let t = c.self.inside in
    let fine = is_fine t.gate.items t.drain.items t.amps.items c.self.invariant (ap (λ t. part_limit (Listed t.gate t.drain t.amps)) c.self.view_is ∙ c.requires) in
    false≢true (c.in-Err.ensures.valid.1 ((λ i. is_part (Listed (c.grid_of.ensures i) (c.grid_of-2.ensures i) t.amps.items)) ∙ fine.whole))
