-- A text that is written piece by piece.
use Rattle.std.proofs.Common.{◌≡◌, ℕ, ◌+◌, ◌≤◌, List, [], ◌++◌, length, take, drop, Option, None, Some, sym, ◌∙◌, ap, arith, append-nil, append_assoc, refl, subst, take-add, take_all, length-drop, drop-drop}
use Rattle.std.specs.Io.KnownBytes.{Keeps, Appends}
use Rattle.outside.specs.Content.{AppendsFront}

-- `rest` is what is left of the text, and what stood before it was appended
pub record Written (old new : Option (List ℕ)) (text rest : List ℕ) : Type 0 where
  pub done : ℕ
  pub left : rest ≡ drop done text
  pub front : Appends old new (take done text)

pub appends_none : (old : Option (List ℕ)) → Appends old old []
appends_none None = tt
appends_none (Some xs) = sym (append-nil xs)

appends_more : (old mid new : Option (List ℕ)) (a b : List ℕ) → Appends old mid a → Appends mid new b → Appends old new (a ++ b)
appends_more None mid new a b first then = tt
appends_more (Some xs) None new a b first then = absurd first
appends_more (Some xs) (Some ys) None a b first then = absurd then
appends_more (Some xs) (Some ys) (Some zs) a b first then = then ∙ ap (λ (l : List ℕ). l ++ b) first ∙ append_assoc xs a b

keeps_appended : (old mid new : Option (List ℕ)) (a : List ℕ) → Appends old mid a → Keeps mid new → Appends old new a
keeps_appended None mid new a first kept = tt
keeps_appended (Some xs) None new a first kept = absurd first
keeps_appended (Some xs) (Some ys) None a first kept = absurd kept
keeps_appended (Some xs) (Some ys) (Some zs) a first kept = kept ∙ first

pub written_none : (old : Option (List ℕ)) (text : List ℕ) → Written old old text text
written_none old text = record { done = 0; left = refl; front = appends_none old }

pub written_more : (old mid new : Option (List ℕ)) (text rest next : List ℕ) (n : ℕ) → next ≡ drop n rest → Written old mid text rest → Appends mid new (take n rest) → Written old new text next
written_more old mid new text rest next n is so_far more =
    let piece : Appends mid new (take n (drop so_far.done text)) = subst (λ (l : List ℕ). Appends mid new (take n l)) so_far.left more in
    record {
      done = so_far.done + n;
      left = is ∙ ap (λ (l : List ℕ). drop n l) so_far.left ∙ drop-drop n so_far.done text;
      front = subst (λ (l : List ℕ). Appends old new l) (sym (take-add so_far.done n text)) (appends_more old mid new (take so_far.done text) (take n (drop so_far.done text)) so_far.front piece);
    }

pub written_front : (old mid new : Option (List ℕ)) (text rest : List ℕ) → Written old mid text rest → Keeps mid new → AppendsFront old new text
written_front old mid new text rest so_far kept = (so_far.done, keeps_appended old mid new (take so_far.done text) so_far.front kept)

pub written_all : (old new : Option (List ℕ)) (text rest : List ℕ) → Written old new text rest → length rest ≡ 0 → Appends old new text
written_all old new text rest so_far ends =
    let short : length text ≤ so_far.done = omega (arith, length-drop so_far.done text, ap length so_far.left, ends) in
    subst (λ (l : List ℕ). Appends old new l) (take_all so_far.done text short) so_far.front
