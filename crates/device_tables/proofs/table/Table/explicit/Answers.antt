-- Currents that are not refused make a valid table, and those that are refused make none.
use Rattle.std.proofs.Common.{◌≡◌, true, leb, ◌&&◌, List, ℤ, length, refl, sym, ap, ◌∙◌}
use Rattle.std.specs.List.{list_all}
use Rattle.std.specs.Option.{is_none}
use Rattle.std.proofs.lemmas.Bool.{false≢true, and_parts, and_from}
use Rattle.semantics.specs.Valid.{is_grid, rising, small_volts}
use Rattle.device_tables.specs.Table.{is_small_grid}
use Rattle.device_tables.specs.Refusal.{table_refusal}
use Rattle.device_tables.proofs.Refusals.{table_refused}
use Rattle.device_tables.proofs.table.Table.explicit.Goals as goal

-- a small grid whose thresholds rise
small_rising : (zs : List ℤ) → is_small_grid zs ≡ true → rising zs ≡ true → is_grid zs ≡ true
small_rising zs small rises =
    let parts = and_parts (leb (length zs) 256) (list_all small_volts zs) small in
    and_from (leb (length zs) 256) (list_all small_volts zs && rising zs) parts.0 (and_from (list_all small_volts zs) (rising zs) parts.1 rises)

pub invariant_of-result : goal.invariant_of-result
invariant_of-result c =
    sym (table_refused c.args.gate c.args.drain c.args.amps.items (small_rising c.args.gate c.requires.gate c.table_refusal.ensures.gate) (small_rising c.args.drain c.requires.drain c.table_refusal.ensures.drain)) ∙ sym (ap is_none (sym c.in-None.is ∙ c.table_refusal.ensures.refusal ∙ ap (table_refusal c.args.gate c.args.drain) c.deref.ensures.value))

pub returns-in-Some-clause-valid : goal.returns-in-Some-clause-valid
returns-in-Some-clause-valid c =
    (λ f. absurd (false≢true f), λ t. ap is_none (sym c.in-Some.is ∙ c.table_refusal.ensures.refusal ∙ ap (table_refusal c.args.gate c.args.drain) c.deref.ensures.value) ∙ table_refused c.args.gate c.args.drain c.args.amps.items (small_rising c.args.gate c.requires.gate c.table_refusal.ensures.gate) (small_rising c.args.drain c.requires.drain c.table_refusal.ensures.drain) ∙ t)

pub returns-in-None-clause-valid : goal.returns-in-None-clause-valid
returns-in-None-clause-valid c =
    (λ t. sym (table_refused c.args.gate c.args.drain c.args.amps.items (small_rising c.args.gate c.requires.gate c.table_refusal.ensures.gate) (small_rising c.args.drain c.requires.drain c.table_refusal.ensures.drain)) ∙ sym (ap is_none (sym c.in-None.is ∙ c.table_refusal.ensures.refusal ∙ ap (table_refusal c.args.gate c.args.drain) c.deref.ensures.value)), λ t. refl)
