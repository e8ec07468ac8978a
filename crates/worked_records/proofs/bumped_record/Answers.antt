use Rattle.std.proofs.Common.{◌∙◌, ◌<◌, true, ⊎_elim, inl, inr}
use Rattle.worked_records.specs.Rc.{rc, bumped, kept}
use Rattle.worked_records.proofs.Rows.{faults, bumped_beside}
use Rattle.worked_records.proofs.bumped_record.Goals as goal

pub returns : goal.returns
returns c = λ n t aside. c.law_change.ensures rc (λ m. true) 499 500 bumped kept bumped_beside n t (⊎_elim (λ (h : t < 499). inl h) (λ (h : 500 < t). inr (inl h)) aside) ∙ faults n t
