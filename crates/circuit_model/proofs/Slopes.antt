-- How the voltage of a source goes on from one tick to the next.
use Rattle.std.proofs.Common.{◌≡◌, ℕ, zero, suc, ◌-◌, ◌<◌, ◌≤◌, Bool, true, false, List, [], ◌∷◌, inl, inr, refl, sym, ◌∙◌, ap, subst, arith, ℤ, pos, ◌+ℤ◌, ◌-ℤ◌, ◌*ℤ◌}
use Rattle.std.specs.Prelude.{◌⊎◌, neg_ℤ, nat_lt}
use Rattle.std.proofs.Math.IntN.{*ℤ_comm, *ℤ-one, *ℤ-zero, zero-*ℤ, suc_ℤ-*ℤ}
use Rattle.std.proofs.lemmas.Bool.{cond-true, cond-false, ltb-true, ltb-false, lt-ltb, le-ltb}
use Rattle.std.proofs.lemmas.Int.{ints}
use Rattle.semantics.specs.declared.fraction.Fraction.{Fraction}
use Rattle.semantics.specs.Points.{rising_times}
use Rattle.semantics.specs.Source.{between, level, pair_at, pair_from, signed, slope_at, slope_from}
use Rattle.circuit_model.proofs.Sources.{rising_two}

-- from one voltage to another a tick later: the denominator stays and the numerator gains this, or both have one number of volts
abbrev pub Follows : Fraction → ℤ → Fraction → Type 0
Follows v gain w =
    ((w.den ≡ v.den) × (w.num ≡ v.num +ℤ gain))
    ⊎ ((z : ℤ) × (w.num ≡ z *ℤ pos w.den) × (v.num +ℤ gain ≡ z *ℤ pos v.den))

pub one_more : (z : ℤ) (n : ℕ) → z *ℤ pos (suc n) ≡ z *ℤ pos n +ℤ z
one_more z n = *ℤ_comm z (pos (suc n)) ∙ suc_ℤ-*ℤ (pos n) z ∙ ap (λ x. x +ℤ z) (*ℤ_comm (pos n) z)

once : (z : ℤ) → z *ℤ pos 1 ≡ z
once z = omega (arith, ints, *ℤ-one z)

no_more : (z : ℤ) → z ≡ z +ℤ pos 0
no_more z = omega (arith, ints)

-- ---- between two points

inside_by : (x y : ℤ) (a b : ℕ) → (x *ℤ pos a) +ℤ (y *ℤ pos (suc b)) ≡ ((x *ℤ pos (suc a)) +ℤ (y *ℤ pos b)) +ℤ (y -ℤ x)
inside_by x y a b = omega (arith, ints, one_more x a, one_more y b)

gain_inside : (p q : ℕ × ℤ) (t : ℕ) → p.0 ≤ t → suc t < q.0 → (between p q (suc t)).num ≡ (between p q t).num +ℤ (q.1 -ℤ p.1)
gain_inside p q t after ahead =
    let left : suc (q.0 - suc t) ≡ q.0 - t = omega arith in
    let right : suc t - p.0 ≡ suc (t - p.0) = omega arith in
    (λ i. (p.1 *ℤ pos (q.0 - suc t)) +ℤ (q.1 *ℤ pos (right i)))
    ∙ inside_by p.1 q.1 (q.0 - suc t) (t - p.0)
    ∙ (λ i. ((p.1 *ℤ pos (left i)) +ℤ (q.1 *ℤ pos (t - p.0))) +ℤ (q.1 -ℤ p.1))

end_by : (x y : ℤ) (b : ℕ) → y *ℤ pos (suc b) ≡ ((x *ℤ pos 1) +ℤ (y *ℤ pos b)) +ℤ (y -ℤ x)
end_by x y b = omega (arith, ints, one_more y b, once x)

-- into the second point
gain_end : (p q : ℕ × ℤ) (t : ℕ) → p.0 ≤ t → suc t ≡ q.0 → q.1 *ℤ pos (q.0 - p.0) ≡ (between p q t).num +ℤ (q.1 -ℤ p.1)
gain_end p q t after at =
    let left : 1 ≡ q.0 - t = omega (arith, at) in
    let right : q.0 - p.0 ≡ suc (t - p.0) = omega (arith, at) in
    (λ i. q.1 *ℤ pos (right i)) ∙ end_by p.1 q.1 (t - p.0) ∙ (λ i. ((p.1 *ℤ pos (left i)) +ℤ (q.1 *ℤ pos (t - p.0))) +ℤ (q.1 -ℤ p.1))

-- ---- at a point

start_by : (x y : ℤ) (a : ℕ) → (x *ℤ pos a) +ℤ (y *ℤ pos 0) ≡ x *ℤ pos a
start_by x y a = omega (arith, ints, *ℤ-zero y)

-- at the tick of a point the source has its voltage
at_point : (q : ℕ × ℤ) (qs : List (ℕ × ℤ)) → rising_times (q ∷ qs) ≡ true → (pair_from q qs q.0).num ≡ q.1 *ℤ pos (pair_from q qs q.0).den
at_point q [] up = sym (once q.1)
at_point q (r ∷ qs) up =
    let here : pair_from q (r ∷ qs) q.0 ≡ between q r q.0 = cond-true (nat_lt q.0 r.0) (between q r q.0) (pair_from r qs q.0) (lt-ltb q.0 r.0 (rising_two q r qs up).0) in
    let none : q.0 - q.0 ≡ 0 = omega arith in
    ap (λ (v : Fraction). v.num) here
    ∙ (λ i. (q.1 *ℤ pos (r.0 - q.0)) +ℤ (r.1 *ℤ pos (none i)))
    ∙ start_by q.1 r.1 (r.0 - q.0)
    ∙ ap (λ (v : Fraction). q.1 *ℤ pos v.den) (sym here)

point_at : (q : ℕ × ℤ) (qs : List (ℕ × ℤ)) (t den : ℕ) → rising_times (q ∷ qs) ≡ true → t ≡ q.0 → (pair_from q qs t).den ≡ den → (pair_from q qs t).num ≡ q.1 *ℤ pos den
point_at q qs t den up at is = subst (λ u. (pair_from q qs u).num ≡ q.1 *ℤ pos (pair_from q qs u).den) (sym at) (at_point q qs up) ∙ ap (λ k. q.1 *ℤ pos k) is

-- ---- a tick further

pub follows_is : (v v' : Fraction) (gain gain' : ℤ) (w w' : Fraction) → v ≡ v' → gain ≡ gain' → w ≡ w' → Follows v' gain' w' → Follows v gain w
follows_is v v' gain gain' w w' first slope second is = subst (λ x. Follows x gain w) (sym first) (subst (λ x. Follows v' x w) (sym slope) (subst (λ x. Follows v' gain' x) (sym second) is))

-- into a point, from the voltage one tick before it
into_point : (v : Fraction) (gain : ℤ) (q : ℕ × ℤ) (qs : List (ℕ × ℤ)) (t : ℕ) → rising_times (q ∷ qs) ≡ true → t ≡ q.0 → v.num +ℤ gain ≡ q.1 *ℤ pos v.den → Follows v gain (pair_from q qs t)
into_point v gain q qs t up at is = inr (q.1, point_at q qs t (pair_from q qs t).den up at refl, is)

-- from a point on
follows_from : (p : ℕ × ℤ) (qs : List (ℕ × ℤ)) (t : ℕ) → rising_times (p ∷ qs) ≡ true → p.0 ≤ t → Follows (pair_from p qs t) (slope_from p qs t) (pair_from p qs (suc t))
follows_from p [] t up after = inl (refl, no_more p.1)
follows_from p (q ∷ qs) t up after = by (λ past. follows_from q qs t two.1 past) (nat_lt t q.0) refl (nat_lt (suc t) q.0) refl
  where
    two : (p.0 < q.0) × (rising_times (q ∷ qs) ≡ true)
    two = rising_two p q qs up

    by : (q.0 ≤ t → Follows (pair_from q qs t) (slope_from q qs t) (pair_from q qs (suc t))) → (a : Bool) → nat_lt t q.0 ≡ a → (b : Bool) → nat_lt (suc t) q.0 ≡ b
        → Follows (pair_from p (q ∷ qs) t) (slope_from p (q ∷ qs) t) (pair_from p (q ∷ qs) (suc t))
    by rest true here true there = follows_is _ (between p q t) _ (q.1 -ℤ p.1) _ (between p q (suc t))
        (cond-true (nat_lt t q.0) (between p q t) (pair_from q qs t) here)
        (cond-true (nat_lt t q.0) (q.1 -ℤ p.1) (slope_from q qs t) here)
        (cond-true (nat_lt (suc t) q.0) (between p q (suc t)) (pair_from q qs (suc t)) there)
        (inl (refl, gain_inside p q t after (ltb-true (suc t) q.0 there)))
    by rest true here false there =
        let at : suc t ≡ q.0 = omega (arith, ltb-true t q.0 here, ltb-false (suc t) q.0 there) in
        follows_is _ (between p q t) _ (q.1 -ℤ p.1) _ (pair_from q qs (suc t))
        (cond-true (nat_lt t q.0) (between p q t) (pair_from q qs t) here)
        (cond-true (nat_lt t q.0) (q.1 -ℤ p.1) (slope_from q qs t) here)
        (cond-false (nat_lt (suc t) q.0) (between p q (suc t)) (pair_from q qs (suc t)) there)
        (into_point (between p q t) (q.1 -ℤ p.1) q qs (suc t) two.1 at (sym (gain_end p q t after at)))
    by rest false here b there =
        let past : q.0 ≤ t = ltb-false t q.0 here in
        follows_is _ (pair_from q qs t) _ (slope_from q qs t) _ (pair_from q qs (suc t))
        (cond-false (nat_lt t q.0) (between p q t) (pair_from q qs t) here)
        (cond-false (nat_lt t q.0) (q.1 -ℤ p.1) (slope_from q qs t) here)
        (cond-false (nat_lt (suc t) q.0) (between p q (suc t)) (pair_from q qs (suc t)) (le-ltb (suc t) q.0 (omega (arith, past))))
        (rest past)

-- a source follows its slope
pub follows_at : (ps : List (ℕ × ℤ)) (t : ℕ) → rising_times ps ≡ true → Follows (pair_at ps t) (slope_at ps t) (pair_at ps (suc t))
unfolding pair_at slope_at
follows_at [] t up = inl (refl, no_more (pos 0))
follows_at (p ∷ ps) t up = by (nat_lt t p.0) refl (nat_lt (suc t) p.0) refl
  where
    by : (a : Bool) → nat_lt t p.0 ≡ a → (b : Bool) → nat_lt (suc t) p.0 ≡ b → Follows (pair_at (p ∷ ps) t) (slope_at (p ∷ ps) t) (pair_at (p ∷ ps) (suc t))
    by true here true there = follows_is _ (level p.1) _ (pos 0) _ (level p.1)
        (cond-true (nat_lt t p.0) (level p.1) (pair_from p ps t) here)
        (cond-true (nat_lt t p.0) (pos 0) (slope_from p ps t) here)
        (cond-true (nat_lt (suc t) p.0) (level p.1) (pair_from p ps (suc t)) there)
        (inl (refl, no_more p.1))
    by true here false there =
        let at : suc t ≡ p.0 = omega (arith, ltb-true t p.0 here, ltb-false (suc t) p.0 there) in
        follows_is _ (level p.1) _ (pos 0) _ (pair_from p ps (suc t))
        (cond-true (nat_lt t p.0) (level p.1) (pair_from p ps t) here)
        (cond-true (nat_lt t p.0) (pos 0) (slope_from p ps t) here)
        (cond-false (nat_lt (suc t) p.0) (level p.1) (pair_from p ps (suc t)) there)
        (into_point (level p.1) (pos 0) p ps (suc t) up at (sym (no_more p.1) ∙ sym (once p.1)))
    by false here b there =
        let past : p.0 ≤ t = ltb-false t p.0 here in
        follows_is _ (pair_from p ps t) _ (slope_from p ps t) _ (pair_from p ps (suc t))
        (cond-false (nat_lt t p.0) (level p.1) (pair_from p ps t) here)
        (cond-false (nat_lt t p.0) (pos 0) (slope_from p ps t) here)
        (cond-false (nat_lt (suc t) p.0) (level p.1) (pair_from p ps (suc t)) (le-ltb (suc t) p.0 (omega (arith, past))))
        (follows_from p ps t up past)

-- ---- what follows

-- where the denominator stays, the numerator gains this
pub gained : (v : Fraction) (gain : ℤ) (w : Fraction) → Follows v gain w → w.den ≡ v.den → w.num ≡ v.num +ℤ gain
gained v gain w (inl same) den = same.1
gained v gain w (inr (z, second, first)) den = second ∙ ap (λ k. z *ℤ pos k) den ∙ sym first

add_times : (x y : ℤ) (a : ℕ) → (x +ℤ y) *ℤ pos a ≡ (x *ℤ pos a) +ℤ (y *ℤ pos a)
add_times x y zero = omega (arith, ints, *ℤ-zero (x +ℤ y), *ℤ-zero x, *ℤ-zero y)
add_times x y (suc a) = omega (arith, ints, one_more (x +ℤ y) a, one_more x a, one_more y a, add_times x y a)

swapped : (z : ℤ) (a b : ℕ) → (z *ℤ pos a) *ℤ pos b ≡ (z *ℤ pos b) *ℤ pos a
swapped z a zero = *ℤ-zero (z *ℤ pos a) ∙ sym (ap (λ x. x *ℤ pos a) (*ℤ-zero z) ∙ zero-*ℤ (pos a))
swapped z a (suc b) = omega (arith, ints, one_more (z *ℤ pos a) b, swapped z a b, ap (λ x. x *ℤ pos a) (one_more z b), add_times (z *ℤ pos b) z a)

-- it is the same voltage as the first with this more
pub met : (v : Fraction) (gain : ℤ) (w : Fraction) → Follows v gain w → (v.num +ℤ gain) *ℤ pos w.den ≡ w.num *ℤ pos v.den
met v gain w (inl (den, num)) = (λ i. sym num i *ℤ pos (den i))
met v gain w (inr (z, second, first)) = ap (λ x. x *ℤ pos w.den) first ∙ swapped z v.den w.den ∙ ap (λ x. x *ℤ pos v.den) (sym second)

neg_times : (z : ℤ) (k : ℕ) → neg_ℤ (z *ℤ pos k) ≡ neg_ℤ z *ℤ pos k
neg_times z zero = omega (arith, ints, *ℤ-zero z, *ℤ-zero (neg_ℤ z))
neg_times z (suc k) = omega (arith, ints, one_more z k, one_more (neg_ℤ z) k, neg_times z k)

neg_gain : (x y z : ℤ) → z ≡ x +ℤ y → neg_ℤ z ≡ neg_ℤ x +ℤ neg_ℤ y
neg_gain x y z is = omega (arith, ints, is)

-- the same with the sign turned
pub follows_signed : (second : Bool) (v : Fraction) (gain : ℤ) (w : Fraction) → Follows v gain w
    → Follows (record { num = signed second v.num; den = v.den }) (signed second gain) (record { num = signed second w.num; den = w.den })
follows_signed false v gain w is = is
follows_signed true v gain w (inl (den, num)) = inl (den, neg_gain v.num gain w.num num)
follows_signed true v gain w (inr (z, second, first)) =
    inr (neg_ℤ z, ap neg_ℤ second ∙ neg_times z w.den, sym (neg_gain v.num gain (v.num +ℤ gain) refl) ∙ ap neg_ℤ first ∙ neg_times z v.den)
