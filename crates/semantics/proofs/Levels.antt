-- One voltage over two capacitances is in the same cell.
use Rattle.std.proofs.Common.{◌≡◌, ◌⊎◌, ℕ, ◌*◌, ◌≤◌, List, sym, ap, ◌∙◌, ⊎_elim, ℤ, pos, ◌-ℤ◌, ◌*ℤ◌, int_le, count_by}
use Rattle.std.proofs.Math.IntN.{*ℤ_comm}
use Rattle.std.proofs.Math.Nat.{mul_comm}
use Rattle.semantics.specs.declared.fraction.Fraction.{Fraction}
use Rattle.semantics.specs.Grid.{difference, cell}
use Rattle.semantics.proofs.Products.{times_times, times_difference, other_order, scaled}

-- a level as the pair of a node of this capacitance
abbrev pub level_over : ℕ → ℤ → Fraction
level_over c x = record { num = pos c *ℤ x; den = c }

-- two pairs are one, or one level over two capacitances
abbrev pub Alike : Fraction → Fraction → Type 0
Alike v w = (v ≡ w) ⊎ ((b c : ℕ) × (x : ℤ) × (1 ≤ b) × (1 ≤ c) × (v ≡ level_over b x) × (w ≡ level_over c x))

less_first : (z x : ℤ) (b : Fraction) (c : ℕ) → 1 ≤ c → int_le (z *ℤ pos (c * b.den)) (((pos c *ℤ x) *ℤ pos b.den) -ℤ (b.num *ℤ pos c)) ≡ int_le (z *ℤ pos b.den) ((x *ℤ pos b.den) -ℤ b.num)
less_first z x b c some =
    let left : z *ℤ pos (c * b.den) ≡ (z *ℤ pos b.den) *ℤ pos c = ap (λ k. z *ℤ pos k) (mul_comm c b.den) ∙ sym (times_times z b.den c) in
    let product : (pos c *ℤ x) *ℤ pos b.den ≡ (x *ℤ pos b.den) *ℤ pos c = ap (λ y. y *ℤ pos b.den) (*ℤ_comm (pos c) x) ∙ other_order x c b.den in
    let right : ((pos c *ℤ x) *ℤ pos b.den) -ℤ (b.num *ℤ pos c) ≡ ((x *ℤ pos b.den) -ℤ b.num) *ℤ pos c =
    ap (λ y. y -ℤ (b.num *ℤ pos c)) product ∙ sym (times_difference (x *ℤ pos b.den) b.num c) in
    (λ i. int_le (left i) (right i)) ∙ scaled (z *ℤ pos b.den) ((x *ℤ pos b.den) -ℤ b.num) c some

less_second : (z x : ℤ) (a : Fraction) (c : ℕ) → 1 ≤ c → int_le (z *ℤ pos (a.den * c)) ((a.num *ℤ pos c) -ℤ ((pos c *ℤ x) *ℤ pos a.den)) ≡ int_le (z *ℤ pos a.den) (a.num -ℤ (x *ℤ pos a.den))
less_second z x a c some =
    let left : z *ℤ pos (a.den * c) ≡ (z *ℤ pos a.den) *ℤ pos c = sym (times_times z a.den c) in
    let product : (pos c *ℤ x) *ℤ pos a.den ≡ (x *ℤ pos a.den) *ℤ pos c = ap (λ y. y *ℤ pos a.den) (*ℤ_comm (pos c) x) ∙ other_order x c a.den in
    let right : (a.num *ℤ pos c) -ℤ ((pos c *ℤ x) *ℤ pos a.den) ≡ (a.num -ℤ (x *ℤ pos a.den)) *ℤ pos c =
    ap (λ y. (a.num *ℤ pos c) -ℤ y) product ∙ sym (times_difference a.num (x *ℤ pos a.den) c) in
    (λ i. int_le (left i) (right i)) ∙ scaled (z *ℤ pos a.den) (a.num -ℤ (x *ℤ pos a.den)) c some

cell_first : (zs : List ℤ) (v w b : Fraction) → Alike v w → cell zs (difference v b) ≡ cell zs (difference w b)
unfolding cell
cell_first zs v w b alike = ⊎_elim
    (λ (same : v ≡ w). ap (λ u. cell zs (difference u b)) same)
    (λ (levels : (p q : ℕ) × (x : ℤ) × (1 ≤ p) × (1 ≤ q) × (v ≡ level_over p x) × (w ≡ level_over q x)).
    ap (λ u. cell zs (difference u b)) levels.5
    ∙ (λ i. count_by (λ z. (less_first z levels.2 b levels.0 levels.3 ∙ sym (less_first z levels.2 b levels.1 levels.4)) i) zs)
    ∙ ap (λ u. cell zs (difference u b)) (sym levels.6))
    alike

cell_second : (zs : List ℤ) (a v w : Fraction) → Alike v w → cell zs (difference a v) ≡ cell zs (difference a w)
unfolding cell
cell_second zs a v w alike = ⊎_elim
    (λ (same : v ≡ w). ap (λ u. cell zs (difference a u)) same)
    (λ (levels : (p q : ℕ) × (x : ℤ) × (1 ≤ p) × (1 ≤ q) × (v ≡ level_over p x) × (w ≡ level_over q x)).
    ap (λ u. cell zs (difference a u)) levels.5
    ∙ (λ i. count_by (λ z. (less_second z levels.2 a levels.0 levels.3 ∙ sym (less_second z levels.2 a levels.1 levels.4)) i) zs)
    ∙ ap (λ u. cell zs (difference a u)) (sym levels.6))
    alike

pub cell_alike : (zs : List ℤ) (a b v w : Fraction) → Alike a v → Alike b w → cell zs (difference a b) ≡ cell zs (difference v w)
cell_alike zs a b v w first second = cell_first zs a v b first ∙ cell_second zs v b w second
