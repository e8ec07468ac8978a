-- What a call answers that may find a cause: Ok exactly where there is none, and else the cause. Want of memory is free.
use Rattle.std.specs.Prelude.{◌≡◌, Result, Ok, Err, Option, Some, None}
use Rattle.deck_cards.specs.declared.edit_refusal.EditRefusal.{EditRefusal}
use Rattle.deck_cards.specs.declared.edit_refusal.EditRefusal.TheVariants.{Memory}

-- a refusal is the cause, or want of memory
abbrev pub Refuses : EditRefusal → Option EditRefusal → Type 0
Refuses Memory cause = Unit {0}
Refuses e cause = cause ≡ Some e

abbrev pub Answers : {A : Type 0} → Result A EditRefusal → Option EditRefusal → Type 0
Answers (Ok x) cause = cause ≡ None
Answers (Err e) cause = Refuses e cause
