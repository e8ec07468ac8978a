-- Pieces that are put into a record from the last one on.
use Rattle.std.proofs.Common.{◌≡◌, ℕ, ◌+◌, ◌<◌, ◌≤◌, Bool, true, false, cond, ◌&&◌, nat_lt, nat_le, List, [], ◌∷◌, ◌++◌, length, refl, sym, ap, ◌∙◌, arith}
use Rattle.std.specs.List.{All}
use Rattle.std.proofs.lemmas.Bool.{and_left, and_right, cond-false, le-ltb}
use Rattle.std.proofs.lemmas.List.Elements.{All-head, All-tail}
use Rattle.std.specs.Prelude.{◌==◌}
use Rattle.semantics.specs.declared.fraction.Fraction.{Fraction}
use Rattle.histories.specs.Piece.{PieceValue}
use Rattle.histories.specs.Record.{IsSpliced, RecordValue, keeps, pair_at}
use Rattle.histories.specs.Track.{pair}
use Rattle.window_run.specs.Window.{tells, with_pieces}
use Rattle.scratch_run.specs.Splices.{HasPut, Takes}

-- the last piece goes in first
put_last : (x y : ℕ → ℕ → Fraction) (ps : List PieceValue) (p : PieceValue) (i t : ℕ) → y i t ≡ with_pieces x (p ∷ []) i t → with_pieces y ps i t ≡ with_pieces x (ps ++ p ∷ []) i t
put_last x y [] p i t e = e
put_last x y (q ∷ ps) p i t e = ap (λ (v : Fraction). cond (tells q i t) (pair q.lines t) v) (put_last x y ps p i t e)

-- what is left to put gives what all give
pub record IsLeft (old now : RecordValue) (all left : List PieceValue) : Type 0 where
  pub stop : now.stop ≡ old.stop
  pub kept : (i : ℕ) → keeps now i ≡ keeps old i
  pub takes : All (Takes now) left
  pub pairs : (i t : ℕ) → t ≤ old.stop → with_pieces (pair_at now) left i t ≡ with_pieces (pair_at old) all i t

pub left_less : (old now new : RecordValue) (all left : List PieceValue) (p : PieceValue) → IsLeft old now all (left ++ p ∷ []) → All (Takes now) left → IsSpliced now new p → IsLeft old new all left
left_less old now new all left p is takes spliced = record {
  stop = spliced.stop ∙ is.stop;
  kept = λ i. spliced.kept i ∙ is.kept i;
  takes = λ k d h. let old = takes k d h in record { kept = spliced.kept _ ∙ old.kept; until = (let e = spliced.stop in let u = old.until in omega (arith, e, u)) };
  pairs = λ i t h. put_last (pair_at now) (pair_at new) left p i t (spliced.pairs i t (let e = is.stop in omega (arith, e, h))) ∙ is.pairs i t h;
}

pub put_all : (old new : RecordValue) (all left : List PieceValue) → left ≡ [] → IsLeft old new all left → HasPut old new all
put_all old new all left none is = record { stop = is.stop; kept = is.kept; pairs = rw none at is.pairs }

-- before the first ticks of the pieces all is as it was
pub as_before : (x : ℕ → ℕ → Fraction) (ps : List PieceValue) (i t : ℕ) → All (λ p. t ≤ p.from) ps → with_pieces x ps i t ≡ x i t
as_before x [] i t late = refl
as_before x (p ∷ ps) i t late =
    cond-false (tells p i t) (pair p.lines t) (with_pieces x ps i t) (and_right (i == p.node) (nat_lt p.from t && nat_le t p.until) (and_left (nat_lt p.from t) (nat_le t p.until) (le-ltb p.from t (All-head (λ (q : PieceValue). t ≤ q.from) p ps late))))
    ∙ as_before x ps i t (All-tail (λ (q : PieceValue). t ≤ q.from) p ps late)
