-- A list that is not refused is a grid, and one that is refused is none.
use Rattle.std.proofs.Common.{refl, sym, ap, ◌∙◌}
use Rattle.std.specs.Option.{is_none}
use Rattle.std.proofs.lemmas.Bool.{false≢true}
use Rattle.device_tables.specs.Refusal.{grid_refusal}
use Rattle.device_tables.proofs.Refusals.{grid_refused}
use Rattle.device_tables.proofs.grid.Grid.of_list.Goals as goal

pub invariant_of-result : goal.invariant_of-result
invariant_of-result c = sym (grid_refused c.args.thresholds.items) ∙ sym (ap is_none (c.in-None.ensures ∙ ap grid_refusal c.deref.ensures.value))

pub returns-in-Some-clause-valid : goal.returns-in-Some-clause-valid
returns-in-Some-clause-valid c =
    (λ f. absurd (false≢true f), λ t. ap is_none (c.in-Some.ensures ∙ ap grid_refusal c.deref.ensures.value) ∙ grid_refused c.args.thresholds.items ∙ t)

pub returns-in-None-clause-valid : goal.returns-in-None-clause-valid
returns-in-None-clause-valid c =
    (λ t. sym (grid_refused c.args.thresholds.items) ∙ sym (ap is_none (c.in-None.ensures ∙ ap grid_refusal c.deref.ensures.value)), λ t. refl)
