-- A line that begins later, with the same rate, is the same line.
use Rattle.std.proofs.Common.{◌≡◌, ℕ, suc, ◌+◌, ◌-◌, ◌*◌, ◌≤◌, sym, ap, ◌∙◌, arith, ℤ, pos, negsuc, ◌+ℤ◌, ◌*ℤ◌}
use Rattle.std.specs.Prelude.{neg_ℤ}
use Rattle.std.proofs.lemmas.Int.{ints}
use Rattle.std.proofs.Math.Nat.{mul-add}
use Rattle.semantics.specs.declared.line.Line.{Line}
use Rattle.node_ramps.specs.Lines.{num_at, turned}

rises : (z : ℤ) (x y w : ℕ) → x + y ≡ w → (z +ℤ pos x) +ℤ pos y ≡ z +ℤ pos w
rises z x y w e = omega (arith, ints, e)

falls : (z : ℤ) (x y w : ℕ) → x + y ≡ w → (z +ℤ neg_ℤ (pos x)) +ℤ neg_ℤ (pos y) ≡ z +ℤ neg_ℤ (pos w)
falls z x y w e = omega (arith, ints, e)

product : (r a b n : ℕ) → a + b ≡ n → r * a + r * b ≡ r * n
product r a b n e = sym (mul-add r a b) ∙ ap (λ k. r * k) e

gains : (z r : ℤ) (a b n : ℕ) → a + b ≡ n → (z +ℤ (r *ℤ pos a)) +ℤ (r *ℤ pos b) ≡ z +ℤ (r *ℤ pos n)
gains z (pos r) a b n e = rises z (r * a) (r * b) (r * n) (product r a b n e)
gains z (negsuc r) a b n e = falls z (suc r * a) (suc r * b) (suc r * n) (product (suc r) a b n e)

pub same_line : (l : Line) (tick later : ℕ) (rate : ℤ) → rate ≡ l.rate → l.start ≤ tick → tick ≤ later → num_at (turned l tick rate) later ≡ num_at l later
same_line l tick later rate e h k = rw e (gains l.num l.rate (tick - l.start) (later - tick) (later - l.start) (omega (arith, h, k)))
