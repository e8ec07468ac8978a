use Rattle.std.proofs.Common.{◌∙◌, ap, subst, sym}
use Rattle.deck_cards.specs.Alone.{IsAlone}
use Rattle.deck_cards.specs.Edits.{edit_rises}
use Rattle.deck_cards.proofs.Alone.{ohms_alone, wave_alone, part_alone}
use Rattle.deck_cards.proofs.apply.edited.Goals as goal

pub set_alone-requires : goal.set_alone-requires
set_alone-requires c = subst (IsAlone c.args.kept.now c.in-SetR.name) (sym c.in-SetR.is) (ohms_alone c.args.kept.now c.in-SetR.name c.in-SetR.ohms c.known.ensures)

pub set_alone-requires-in-SetWave : goal.set_alone-requires-in-SetWave
set_alone-requires-in-SetWave c =
    subst (IsAlone c.args.kept.now c.in-SetWave.name) (sym c.in-SetWave.is) (wave_alone c.args.kept.now c.in-SetWave.name c.in-SetWave.wave c.known.ensures (ap edit_rises (sym c.in-SetWave.is) ∙ c.rising.ensures))

pub set_alone-requires-in-SetModel : goal.set_alone-requires-in-SetModel
set_alone-requires-in-SetModel c = subst (IsAlone c.args.kept.now c.in-SetModel.name) (sym c.in-SetModel.is) (part_alone c.args.kept.now c.in-SetModel.name c.in-SetModel.part c.known.ensures)
