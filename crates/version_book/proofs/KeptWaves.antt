-- The waves that are kept, in the order of the nodes.
use Rattle.std.proofs.Common.{◌≡◌, ℕ, ◌+◌, ◌<◌, List, [], ◌∷◌, ◌++◌, length, get_or, map, take, Some, refl, sym, ap, ◌∙◌, arith}
use Rattle.std.specs.Prelude.{slice_get}
use Rattle.std.proofs.Math.Seq.{take-length}
use Rattle.std.proofs.lemmas.List.{get_or-map, length-map, map-append, take_more}
use Rattle.std.proofs.lemmas.Option.{get_or_from_slice_get, slice_get_within}
use Rattle.semantics.specs.declared.line.Line.{Line}
use Rattle.semantics.specs.Deck.{DeckValue, nodes}
use Rattle.semantics.specs.Wave.{wave}

-- one more is kept
pub one_kept : {V : Type 0} (f : V → List Line) (vs : List V) (v : V) (ls : List (List Line)) (i : ℕ) (l : List Line) → slice_get ls i ≡ Some l → map f vs ≡ take i ls → f v ≡ l → map f (vs ++ v ∷ []) ≡ take (i + 1) ls
one_kept f vs v ls i l at are is =
    map-append f vs (v ∷ []) ∙ rw (are, is, take_more ls i [] (slice_get_within ls i l at), get_or_from_slice_get ls i l [] at) refl

pub one_waved : {V : Type 0} (f : V → List Line) (vs : List V) (v : V) (d : DeckValue) (i : ℕ) → i < length (nodes d) → map f vs ≡ map (wave d) (take i (nodes d)) → f v ≡ wave d (get_or (nodes d) i [])
    → map f (vs ++ v ∷ []) ≡ map (wave d) (take (i + 1) (nodes d))
one_waved f vs v d i inside are is =
    map-append f vs (v ∷ []) ∙ rw (are, is, take_more (nodes d) i [] inside) (sym (map-append (wave d) (take i (nodes d)) (get_or (nodes d) i [] ∷ [])))

-- all are
pub all_kept : {X : Type 0} (ls : List X) (i : ℕ) → i ≡ length ls → take i ls ≡ ls
all_kept ls i whole = rw whole (take-length ls)

-- what is kept at the place of a node is its wave
pub kept_wave : {V : Type 0} (f : V → List Line) (vs : List V) (v : V) (d : DeckValue) (n : List ℕ) (i : ℕ) → map f vs ≡ map (wave d) (nodes d) → slice_get (nodes d) i ≡ Some n → v ≡ get_or vs i v → f v ≡ wave d n
kept_wave f vs v d n i are at is =
    let inside : i < length (nodes d) = slice_get_within (nodes d) i n at in
    let count : length vs ≡ length (nodes d) = sym (length-map vs f) ∙ ap (λ (xs : List (List Line)). length xs) are ∙ length-map (nodes d) (wave d) in
    ap f is ∙ sym (get_or-map f vs i v [] (omega (arith, inside, count))) ∙ ap (λ (xs : List (List Line)). get_or xs i []) are ∙ get_or-map (wave d) (nodes d) i [] [] inside ∙ ap (wave d) (get_or_from_slice_get (nodes d) i n [] at)
