-- The points of a source.
use Rattle.std.proofs.Common.{◌≡◌, ◌∙◌, ℕ, ◌<◌, ℤ, pos, negsuc, Bool, true, false, not, ◌||◌, List, [], ◌∷◌, length, map, Option, Some, None, Result, Ok, Err, refl, sym, ap, arith, if◌then◌else◌, inl, inr, ◌==◌}
use Rattle.std.proofs.lemmas.List.{length-map}
use Rattle.std.specs.Prelude.{nat_lt, unsigned_abs, int_lt, int_le}
use Rattle.std.specs.List.{list_all}
use Rattle.std.proofs.lemmas.Bool.{and_parts, and_from, cases_cond}
use Rattle.std.proofs.lemmas.Bool.Decides.{nat_tests}
use Rattle.semantics.specs.Points.{rising_times, wave_refusal}
use Rattle.semantics.specs.declared.wave.WaveRefusal.TheVariants.{NoPoints, TimesNotRising}
use Rattle.deck_reader.specs.declared.source.Form.{Form}
use Rattle.deck_reader.specs.Words.{Word, is_empty, are_pairs}
use Rattle.deck_reader.specs.Numbers.{◌>>=◌}
use Rattle.deck_reader.specs.Sources.{is_pwl, is_dc, with_points, behind_value, behind_dc, form_of, point, points_of, level_of, form_points, are_rising}

-- whole numbers from 0 on are in the order of their sizes
abs_rises : (a b : ℤ) → int_le (pos 0) a ≡ true → int_le (pos 0) b ≡ true → int_lt a b ≡ true → nat_lt (unsigned_abs a) (unsigned_abs b) ≡ true
abs_rises (pos a) (pos b) _ _ rise = rise
abs_rises (negsuc a) b first _ _ = absurd (cc)
abs_rises (pos a) (negsuc b) _ second _ = absurd (cc)

-- times that rise from 0 on are ticks that rise
pub rising_times-ticks : (points : List (ℤ × ℤ)) → list_all (λ p. int_le (pos 0) p.0) points ≡ true → are_rising points ≡ true
    → rising_times (map (λ p. (unsigned_abs p.0, p.1)) points) ≡ true
rising_times-ticks [] early rise = refl
rising_times-ticks (p ∷ []) early rise = refl
rising_times-ticks (p ∷ q ∷ points) early rise =
    let here = and_parts _ _ early in
    let next = and_parts _ _ here.1 in
    let step = and_parts _ _ rise in
    and_from _ _ (abs_rises p.0 q.0 here.0 next.0 step.0) (rising_times-ticks (q ∷ points) here.1 step.1)

-- ---- at least one point

-- what a chain gives comes from what its first step gives
pub bind_ok : {A B E : Type 0} (r : Result A E) (f : A → Result B E) (y : B) → r >>= f ≡ Ok y → (x : A) × (f x ≡ Ok y)
bind_ok (Ok x) f y is = (x, is)
bind_ok (Err e) f y is = absurd (cc)

points_of_pairs : (b : Bool) (value : Option Word) (words : List Word) (form : Form) → (b ≡ false → are_pairs words ≡ true)
    → (if b then None else Some (record { value = value; points = words })) ≡ Some form → are_pairs form.points ≡ true
points_of_pairs true value words form paired is = absurd (cc)
points_of_pairs false value words form paired is =
    let same : words ≡ form.points = cc in
    ap are_pairs (sym same) ∙ paired refl

no_odd : (a p : Bool) → (a || not p) ≡ false → p ≡ true
no_odd true p e = absurd (cc)
no_odd false true e = refl
no_odd false false e = absurd (cc)

-- the words of a form are those of pairs
with_points-pairs : (value : Option Word) (words : List Word) (form : Form) → with_points value words ≡ Some form → are_pairs form.points ≡ true
with_points-pairs value words form is =
    points_of_pairs (is_empty words || not (are_pairs words)) value words form (no_odd (is_empty words) (are_pairs words)) is

behind_value-pairs : (value : Word) (words : List Word) (form : Form) → behind_value value words ≡ Some form → are_pairs form.points ≡ true
unfolding are_pairs
behind_value-pairs value [] form is = points_of_pairs false (Some value) [] form (λ e. refl) is
behind_value-pairs value (word ∷ words) form is =
    elim (cases_cond (is_pwl word) (with_points (Some value) words) None (Some form) (sym is)) [
      | inl e ↦ with_points-pairs (Some value) words form (sym e)
      | inr e ↦ absurd (cc)
    ]

behind_dc-pairs : (words : List Word) (form : Form) → behind_dc words ≡ Some form → are_pairs form.points ≡ true
behind_dc-pairs [] form is = absurd (cc)
behind_dc-pairs (value ∷ words) form is = behind_value-pairs value words form is

pub form_of-pairs : (words : List Word) (form : Form) → form_of words ≡ Some form → are_pairs form.points ≡ true
unfolding form_of
form_of-pairs [] form is = absurd (cc)
form_of-pairs (word ∷ words) form is =
    let dc_or_value = if is_dc word then behind_dc words else behind_value word words in
    elim (cases_cond (is_pwl word) (with_points None words) dc_or_value (Some form) (sym is)) [
      | inl e ↦ with_points-pairs None words form (sym e)
      | inr e ↦ elim (cases_cond (is_dc word) (behind_dc words) (behind_value word words) (Some form) e) [
        | inl f ↦ behind_dc-pairs words form (sym f)
        | inr f ↦ behind_value-pairs word words form (sym f)
      ]
    ]

-- a form whose words stand in pairs has a point
points_of_form : (level : ℤ) (words : List Word) (points : List (ℤ × ℤ)) → are_pairs words ≡ true
    → (if is_empty words then Ok ((pos 0, level) ∷ []) else points_of words) ≡ Ok points → 0 < length points
unfolding points_of are_pairs
points_of_form level [] points paired is = let same : (pos 0, level) ∷ [] ≡ points = cc in omega (arith, ap length same)
points_of_form level (time ∷ []) points paired is = absurd (cc)
points_of_form level (time ∷ volts ∷ words) points paired is =
    let first = bind_ok (point time volts) (λ p. points_of words >>= (λ ps. Ok (p ∷ ps))) points is in
    let rest = bind_ok (points_of words) (λ ps. Ok (first.0 ∷ ps)) points first.1 in
    let same : first.0 ∷ rest.0 ≡ points = cc in omega (arith, ap length same)

pub form_points-some : (form : Form) (points : List (ℤ × ℤ)) → are_pairs form.points ≡ true → form_points form ≡ Ok points → 0 < length points
unfolding form_points
form_points-some form points paired is =
    let level = bind_ok (level_of form.value) (λ level. if is_empty form.points then Ok ((pos 0, level) ∷ []) else points_of form.points) points is in
    points_of_form level.0 form.points points paired level.1

-- ---- the wave

passes : (n : ℕ) (rise : Bool) → 0 < n → rise ≡ true → (if n == 0 then Some NoPoints else if rise then None else Some TimesNotRising) ≡ None
passes n rise some is = rw is (grind (arith, nat_tests))

-- points of ticks that rise make a wave
pub wave_refusal-ticks : (points : List (ℤ × ℤ)) → 0 < length points → list_all (λ p. int_le (pos 0) p.0) points ≡ true → are_rising points ≡ true
    → wave_refusal (map (λ p. (unsigned_abs p.0, p.1)) points) ≡ None
unfolding wave_refusal
wave_refusal-ticks points some early rise =
    let ticks : List (ℕ × ℤ) = map (λ p. (unsigned_abs p.0, p.1)) points in
    passes (length ticks) (rising_times ticks) (omega (arith, length-map {B = ℕ × ℤ} points (λ (p : ℤ × ℤ). (unsigned_abs p.0, p.1)))) (rising_times-ticks points early rise)
