-- What is noted, and where it lies.
use Rattle.std.proofs.Common.{◌≡◌, ◌≢◌, ℕ, ◌+◌, ◌<◌, List, [], ◌∷◌, ◌++◌, get_or, refl, arith, subst, ⊎_elim, inl, inr}
use Rattle.std.specs.Prelude.{All, ◌⊎◌}
use Rattle.std.specs.List.{Contains}
use Rattle.std.proofs.lemmas.Bool.{cases_eq}
use Rattle.std.proofs.lemmas.List.Elements.{Contains-append_cases, Contains-append_left, Contains-append_right}
use Rattle.window_run.proofs.Lines.{contains_cons, nothing}
use Rattle.window_run.specs.Net.{Cells, Net, IsNet}
use Rattle.window_run.specs.Stage.{IsFrom, Keeps, SameBut, no_cells}

pub from_inside : (net : Net) (due looks : List ℕ) → IsNet net → ((k : ℕ) → Contains due k → k < net.devices) → IsFrom net due looks → (k : ℕ) → Contains looks k → k < net.devices
from_inside net due looks is first from k has = ⊎_elim (λ (h : Contains due k). first k h) (λ (h : (i : ℕ) × Contains (net.near i) k). is.near_inside h.0 k h.1) (from k has)

pub has_of : (P : ℕ → Type 0) (xs : List ℕ) (k : ℕ) → All P xs → Contains xs k → P k
has_of P xs k all (j, inside, is) = subst P is (all j k inside)

-- what stayed but for some stays but for more
pub same_but_more : (some more : List ℕ) (old new : List Cells) → Keeps some more → SameBut some old new → SameBut more old new
same_but_more some more old new keeps same = λ k. ⊎_elim (λ (e : get_or new k no_cells ≡ get_or old k no_cells). inl e) (λ (has : Contains some k). inr (keeps k has)) (same k)

-- one more is noted
pub pushed : (P : ℕ → Type 0) (xs : List ℕ) (x : ℕ) → ((k : ℕ) → Contains xs k → P k) → P x → (k : ℕ) → Contains (xs ++ x ∷ []) k → P k
pushed P xs x old new k has = ⊎_elim (λ (h : Contains xs k). old k h) (λ (h : Contains (x ∷ []) k). ⊎_elim (λ (e : x ≡ k). subst P e new) (λ (none : Contains [] k). absurd (nothing k none)) (contains_cons x k [] h)) (Contains-append_cases xs (x ∷ []) k has)

pub up_to_pushed : (Q : ℕ → Type 0) (xs : List ℕ) (n : ℕ) → ((k : ℕ) → k < n → Q k → Contains xs k) → (k : ℕ) → k < n + 1 → Q k → Contains (xs ++ n ∷ []) k
up_to_pushed Q xs n old k h q = ⊎_elim
    (λ (e : k ≡ n). rw e (Contains-append_right xs (n ∷ []) n (0, omega arith, refl)))
    (λ (f : k ≢ n). Contains-append_left xs (n ∷ []) k (old k (omega (arith, h, f)) q))
    (cases_eq k n)

pub up_to_next : (Q : ℕ → Type 0) (xs : List ℕ) (n : ℕ) → ((k : ℕ) → k < n → Q k → Contains xs k) → (Q n → ⊥) → (k : ℕ) → k < n + 1 → Q k → Contains xs k
up_to_next Q xs n old never k h q = ⊎_elim
    (λ (e : k ≡ n). absurd (never (subst Q e q)))
    (λ (f : k ≢ n). old k (omega (arith, h, f)) q)
    (cases_eq k n)
