-- The voltage of a driven node: straight between the points of its source, and level before the first and after the last.
use Rattle.std.specs.Prelude.{ℕ, ◌-◌, nat_lt, Bool, if◌then◌else◌, ℤ, pos, ◌+ℤ◌, ◌-ℤ◌, ◌*ℤ◌, neg_ℤ, List, [], ◌∷◌}
use Rattle.semantics.specs.declared.fraction.Fraction.{Fraction}

-- the straight line from the point p to the point q, at tick t
abbrev pub between : ℕ × ℤ → ℕ × ℤ → ℕ → Fraction
between p q t = record { num = (p.1 *ℤ pos (q.0 - t)) +ℤ (q.1 *ℤ pos (t - p.0)); den = q.0 - p.0 }

abbrev pub level : ℤ → Fraction
level volts = record { num = volts; den = 1 }

-- at a tick from the point p on, with the points that follow it
abbrev pub pair_from : ℕ × ℤ → List (ℕ × ℤ) → ℕ → Fraction
pair_from p [] t = level p.1
pair_from p (q ∷ qs) t = if nat_lt t q.0 then between p q t else pair_from q qs t

-- what a source with these points gives at a tick
unfoldable pub pair_at : List (ℕ × ℤ) → ℕ → Fraction
pair_at [] t = level (pos 0)
pair_at (p ∷ ps) t = if nat_lt t p.0 then level p.1 else pair_from p ps t

-- what its numerator gains from this tick to the next
abbrev pub slope_from : ℕ × ℤ → List (ℕ × ℤ) → ℕ → ℤ
slope_from p [] t = pos 0
slope_from p (q ∷ qs) t = if nat_lt t q.0 then q.1 -ℤ p.1 else slope_from q qs t

unfoldable pub slope_at : List (ℕ × ℤ) → ℕ → ℤ
slope_at [] t = pos 0
slope_at (p ∷ ps) t = if nat_lt t p.0 then pos 0 else slope_from p ps t

-- negated, where the node is the second of its source
abbrev pub signed : Bool → ℤ → ℤ
signed second z = if second then neg_ℤ z else z
