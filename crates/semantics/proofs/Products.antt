-- Signed products with whole numbers, and the order of two that are scaled alike.
use Rattle.std.proofs.Common.{◌≡◌, ℕ, zero, suc, ◌+◌, ◌*◌, ◌≤◌, true, sym, ap, ◌∙◌, arith, ℤ, pos, ◌-ℤ◌, ◌*ℤ◌, ◌≤ℤ◌, int_le}
use Rattle.std.proofs.Math.Nat.{mul_comm, mul_assoc, mul-le-mul_right, le_of_mul-le-mul_right}
use Rattle.std.proofs.lemmas.Int.{ints}
use borrow.Author.Differences.{up, down, product_is}
use Rattle.semantics.proofs.Free.{same_test}

pub times_times : (z : ℤ) (m n : ℕ) → (z *ℤ pos m) *ℤ pos n ≡ z *ℤ pos (m * n)
times_times z m n = omega (arith, ints, product_is (z *ℤ pos m) (pos n), product_is z (pos m), product_is z (pos (m * n)), ap (λ k. k * n) (product_is z (pos m)).0, ap (λ k. k * n) (product_is z (pos m)).1, mul_assoc (up z) m n, mul_assoc (down z) m n)

pub times_difference : (x y : ℤ) (n : ℕ) → (x -ℤ y) *ℤ pos n ≡ (x *ℤ pos n) -ℤ (y *ℤ pos n)
times_difference x y n =
    let parts : up (x -ℤ y) + (down x + up y) ≡ down (x -ℤ y) + (up x + down y) = omega (arith, ints) in
    omega (arith, ints, product_is (x -ℤ y) (pos n), product_is x (pos n), product_is y (pos n), ap (λ m. m * n) parts)

pub other_order : (z : ℤ) (m n : ℕ) → (z *ℤ pos m) *ℤ pos n ≡ (z *ℤ pos n) *ℤ pos m
other_order z m n = times_times z m n ∙ ap (λ k. z *ℤ pos k) (mul_comm m n) ∙ sym (times_times z n m)

-- ---- an order that is scaled

scaled_up : (a b : ℤ) (c : ℕ) → a ≤ℤ b → (a *ℤ pos c) ≤ℤ (b *ℤ pos c)
scaled_up a b c h =
    let parts : up a + down b ≤ up b + down a = omega (arith, ints) in
    omega (arith, ints, product_is a (pos c), product_is b (pos c), mul-le-mul_right c parts)

scaled_down : (a b : ℤ) (c : ℕ) → (a *ℤ pos (suc c)) ≤ℤ (b *ℤ pos (suc c)) → a ≤ℤ b
scaled_down a b c h =
    let parts : (up a + down b) * suc c ≤ (up b + down a) * suc c = omega (arith, ints, product_is a (pos (suc c)), product_is b (pos (suc c)), h) in
    let less : up a + down b ≤ up b + down a = le_of_mul-le-mul_right parts (omega arith) in
    omega (arith, ints, less)

tested : (a b : ℤ) → int_le a b ≡ true → a ≤ℤ b
tested a b h = grind (arith, ints)

shown : (a b : ℤ) → a ≤ℤ b → int_le a b ≡ true
shown a b h = grind (arith, ints)

pub scaled : (a b : ℤ) (c : ℕ) → 1 ≤ c → int_le (a *ℤ pos c) (b *ℤ pos c) ≡ int_le a b
scaled a b (suc c) some = same_test _ _ (λ h. shown a b (scaled_down a b c (tested _ _ h))) (λ h. shown _ _ (scaled_up a b (suc c) (tested a b h)))
scaled a b zero some = absurd (omega arith)
