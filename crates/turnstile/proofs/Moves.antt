-- Each step that a pass makes is allowed.
use Rattle.std.proofs.Common.{if◌then◌else◌, ◌≡◌, ◌≢◌, ◌⊎◌, ℕ, zero, suc, ◌+◌, ◌^◌, ◌%◌, ◌<◌, ◌≤◌, ◌==◌, Bool, true, false, nat_lt, List, [], ◌∷◌, ◌++◌, length, set, Some, None, Option, refl, sym, ap, ◌∙◌, subst, ⊎_elim, inl, inr, arith}
use Rattle.std.specs.Prelude.{slice_index, slice_set}
use Rattle.std.proofs.Math.Nat.{mod-eq_of_lt}
use Rattle.std.proofs.lemmas.Bool.Decides.{nat_tests}
use mathlib.Core.Option.{none, some}
use mathlib.Core.Option as maybe
use lib.ListN.{get_elem?}
use prog.Atomic.{either}
use Rattle.atomic_table.specs.Table.{State, Me, step, Act, keeps, takes, gives, Valid, stepped, homes_after, carried_after, Allows, Splits, Joins, opening}
use Rattle.turnstile.specs.declared.view.Known.{Known}
use Rattle.turnstile.specs.declared.view.Stage.{Stage}
use Rattle.turnstile.specs.declared.view.Stage.TheVariants.{Idle, Joined, Waits, Holds}
use Rattle.turnstile.specs.declared.view.View.{View}
use Rattle.turnstile.specs.declared.view.View.TheVariants.{Spent, Live}
use Rattle.turnstile.specs.Lists.{Has, Begins, OneMore, longer}
use Rattle.turnstile.specs.Rule.{numbers, Kept, Ruled}
use Rattle.turnstile.specs.Steps.{staged, at_rest, Draws, Takes, Serves, Follows, stage_ticket, stage_found, opener, counted, newcomer, merged, both, past, Looks}
use native.Mathlib.Decide.{ℕ_discrete}
use Rattle.atomic_table.proofs.Lists.{set_again, set_else}
use Rattle.turnstile.proofs.Keeps.{draws, opens, joins, looks, longer_first, numbers_one, takes as taken, serves, set_there}

set_word0 : (ws : List ℕ) (n : ℕ) → length ws ≡ 2 → (length (set ws 0 n) ≡ 2) × (slice_index (set ws 0 n) 1 ≡ slice_index ws 1) × (slice_index (set ws 0 n) 0 ≡ n)
set_word0 [] n e = absurd (omega arith)
set_word0 (a ∷ []) n e = absurd (omega arith)
set_word0 (a ∷ b ∷ ws) n e = (e, refl, refl)

set_word1 : (ws : List ℕ) (n : ℕ) → length ws ≡ 2 → (length (set ws 1 n) ≡ 2) × (slice_index (set ws 1 n) 1 ≡ n) × (slice_index (set ws 1 n) 0 ≡ slice_index ws 0)
set_word1 [] n e = absurd (omega arith)
set_word1 (a ∷ []) n e = absurd (omega arith)
set_word1 (a ∷ b ∷ ws) n e = (e, refl, refl)

abbrev first_of : {V : Type 0} → V → List (ℕ × Option V) → V
first_of z [] = z
first_of z ((k, None) ∷ xs) = z
first_of z ((k, Some x) ∷ xs) = x

module _ {V E L : Type 0} (turns : V → List E) (maker : E → ℕ) (label : V → L) where
  at_words : (words : List ℕ) (homes : List (maybe.Option (Option V))) (views : List (View E L)) (served drawn : ℕ) (home : maybe.Option (maybe.Option (Option V)))
      → (length words ≡ 2) × (slice_index words 1 ≡ served) × (slice_index words 0 ≡ drawn) → get_elem? homes 0 ≡ home
      → Kept turns maker label served drawn home views → Ruled turns maker label record { words = words; homes = homes; views = views }
  at_words words homes views served drawn home w h k = (
    w.0,
    subst (λ (z : ℕ). Kept turns maker label z (slice_index words 0) (get_elem? homes 0) views) (sym w.1)
        (subst (λ (z : ℕ). Kept turns maker label served z (get_elem? homes 0) views) (sym w.2) (subst (λ (z : maybe.Option (maybe.Option (Option V))). Kept turns maker label served drawn z views) (sym h) k)),
  )

  abbrev Table : Type 0
  Table = State (Option V) (View E L)

  draw_case : (s : Table) (id : ℕ) (v : Known E L) (old : ℕ) → v.stage ≡ Idle → old + 1 < 2 ^ 64 → Ruled turns maker label s → get_elem? s.views id ≡ some (Live v)
      → (b : Bool) → (slice_index s.words 0 == old) ≡ b
      → (w : View E L) × (a : Act (Option V)) × Valid s.homes [] a × Ruled turns maker label (stepped s 0 (either b (old + 1) (slice_index s.words 0)) id [] w a)
      × ◌≡◌ {A = Me (Option V) (View E L)} (w, carried_after [] a) (if b then staged (Waits (slice_index s.words 0)) (Live v) else Live v, [])
  draw_case s id v old idle room h at true is =
      let n = slice_index s.words 0 in
      let same : n ≡ old = grind (arith, nat_tests) in
      let next : old + 1 ≡ n + 1 = ap (λ (z : ℕ). z + 1) (sym same) in
      let w : View E L = Live record v { stage = Waits n } in
      let x = set_word0 s.words (old + 1) h.0 in (
        w,
        keeps,
        tt,
        at_words (set s.words 0 (old + 1)) s.homes (set s.views id w) (slice_index s.words 1) (n + 1) (get_elem? s.homes 0) (x.0, x.1, x.2 ∙ next) refl
            (draws turns maker label (slice_index s.words 1) n (get_elem? s.homes 0) s.views id v idle (omega arith) at h.1),
        refl,
      )
  draw_case s id v old idle room h at false is =
      let n = slice_index s.words 0 in
      let x = set_word0 s.words n h.0 in (
        Live v,
        keeps,
        tt,
        at_words (set s.words 0 n) s.homes (set s.views id (Live v)) (slice_index s.words 1) n (get_elem? s.homes 0) x refl
            (subst (λ (l : List (View E L)). Kept turns maker label (slice_index s.words 1) n (get_elem? s.homes 0) l) (sym (set_again s.views id (Live v) at)) h.1),
        refl,
      )

  pub draw_allowed : (slots id : ℕ) (v : Known E L) (old : ℕ) → v.stage ≡ Idle → old + 1 < 2 ^ 64
      → Allows (Ruled turns maker label) slots id (Live v, []) 0 (λ n. either (n == old) (old + 1) n) (Draws (step slots 0 old (old + 1) none) (Live v, []))
  draw_allowed slots id v old idle room s h len at small = draw_case s id v old idle room h at (slice_index s.words 0 == old) refl

  take_case : (s : Table) (id t : ℕ) (v : Known E L) → v.stage ≡ Waits t → Ruled turns maker label s → get_elem? s.views id ≡ some (Live v) → Dec (slice_index s.words 1 ≡ t)
      → (w : View E L) × (a : Act (Option V)) × Valid s.homes [] a × Ruled turns maker label (stepped s 1 (slice_index s.words 1) id [] w a)
      × Takes turns maker label (step 0 0 0 0 none) (Live v, []) (slice_index s.words 1) (w, carried_after [] a)
  take_case s id t v waits h at (yes same) =
      let n = slice_index s.words 1 in
      let got = taken turns maker label n (slice_index s.words 0) (get_elem? s.homes 0) s.views id v (waits ∙ ap Waits (sym same)) at h.1 in
      let x = got.0 in
      let w : View E L = Live record v { stage = Holds n (turns x) } in
      let words = set_word1 s.words n h.0 in (
        w,
        takes 0 (Some x),
        got.1,
        at_words (set s.words 1 n) (set s.homes 0 none) (set s.views id w) n (slice_index s.words 0) (some none) words (set_there s.homes 0 (some (Some x)) none got.1) got.4,
        inl (same ∙ sym (ap stage_ticket waits), (x, refl, (got.2, ap Some got.3))),
      )
  take_case s id t v waits h at (no other) =
      let n = slice_index s.words 1 in
      let words = set_word1 s.words n h.0 in (
        Live v,
        keeps,
        tt,
        at_words (set s.words 1 n) s.homes (set s.views id (Live v)) n (slice_index s.words 0) (get_elem? s.homes 0) words refl
            (subst (λ (l : List (View E L)). Kept turns maker label n (slice_index s.words 0) (get_elem? s.homes 0) l) (sym (set_again s.views id (Live v) at)) h.1),
        inr ((λ e. other (e ∙ ap stage_ticket waits)), refl),
      )

  pub take_allowed : (slots id t : ℕ) (v : Known E L) → v.stage ≡ Waits t
      → Allows (Ruled turns maker label) slots id (Live v, []) 1 (λ n. n) (Takes turns maker label (step 0 0 0 0 none) (Live v, []))
  take_allowed slots id t v waits s h len at small = take_case s id t v waits h at (ℕ_discrete (slice_index s.words 1) t)

  pub serve_allowed : (slots id t : ℕ) (v : Known E L) (found : List E) (x : V) → v.stage ≡ Holds t found → OneMore maker v.number found (turns x) → label x ≡ v.label
      → Allows (Ruled turns maker label) slots id (Live v, (0, Some x) ∷ []) 1 (λ n. (n + 1) % 2 ^ 64) (Serves turns maker label (step 0 0 0 0 none) (Live v, (0, Some x) ∷ []))
  serve_allowed slots id t v found x holds more same s h len at small =
      let n = slice_index s.words 1 in
      let drawn = slice_index s.words 0 in
      let left = serves turns maker label n drawn (get_elem? s.homes 0) s.views id v t found x holds more same at h.1 in
      let low = left.0 in
      let fits = left.1 in
      let next : (n + 1) % 2 ^ 64 ≡ n + 1 = mod-eq_of_lt (omega arith) in
      let w : View E L = Live record v { stage = Idle; seen = turns x } in
      let words = set_word1 s.words ((n + 1) % 2 ^ 64) h.0 in (
        w,
        gives,
        tt,
        at_words (set s.words 1 ((n + 1) % 2 ^ 64)) (set s.homes 0 (some (Some x))) (set s.views id w) (n + 1) drawn (some (some (Some x))) (words.0, words.1 ∙ next, words.2) (set_there s.homes 0 none (some (Some x)) left.2) left.4,
        (λ y e. let l : x ≡ y = ap (first_of x) e in (ap (λ (z : V). (at_rest (turns z) (Live v), [])) l, subst (λ (f : List E). Begins maker f v.seen (numbers v)) (sym (ap stage_found holds)) left.3)),
      )

  pub open_allowed : (x : V) → turns x ≡ [] → Ruled turns maker label (opening (0 ∷ 0 ∷ []) (Some x ∷ []) (opener (label x)))
  open_allowed x empty = (refl, opens turns maker label x empty)

  pub number_allowed : (id : ℕ) (v : Known E L) → v.stage ≡ Idle → v.number ≡ 0 → Splits (Ruled turns maker label) id (Live v) (counted (Live v)) (newcomer (Live v))
  number_allowed id v idle zero_is s h at = (h.0, numbers_one turns maker label (slice_index s.words 1) (slice_index s.words 0) (get_elem? s.homes 0) s.views id v idle zero_is at h.1)

  pub join_allowed : (id other : ℕ) (v w : Known E L) → v.stage ≡ Idle → w.stage ≡ Idle → Joins (Ruled turns maker label) id (Live v) other (Live w) (merged (Live v) (Live w)) Spent
  join_allowed id other v w idle_v idle_w s h at apart there = (
    h.0,
    joins turns maker label (slice_index s.words 1) (slice_index s.words 0) (get_elem? s.homes 0) s.views id other v w idle_v idle_w apart at
        (sym (set_else s.views id other (merged (Live v) (Live w)) apart) ∙ there) h.1,
  )

  pub look_allowed : (slots id : ℕ) (v w : Known E L) → v.stage ≡ Idle → w.stage ≡ Idle
      → Allows (Ruled turns maker label) slots id (merged (Live v) (Live w), []) 1 (λ n. n)
      (λ n after. (after ≡ (Live (both v w), [])) × Begins maker (both v w).seen v.seen (numbers v) × Begins maker (both v w).seen w.seen (numbers w))
  look_allowed slots id v w idle_v idle_w s h len at small =
      let n = slice_index s.words 1 in
      let words = set_word1 s.words n h.0 in
      let le = longer_first v.seen w.seen (nat_lt (length v.seen) (length w.seen)) refl in
      let x : Known E L = record (both v w) { stage = Joined (past v) (past w) } in
      let k = looks turns maker label n (slice_index s.words 0) (get_elem? s.homes 0) s.views id x (past v) (past w) refl le.0 le.1 at h.1 in (
        Live (both v w),
        keeps,
        tt,
        at_words (set s.words 1 n) s.homes (set s.views id (Live (both v w))) n (slice_index s.words 0) (get_elem? s.homes 0) words refl k.2,
        (refl, k.0, k.1),
      )
