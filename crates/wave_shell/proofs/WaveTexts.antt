-- The text of the waves, node after node.
use Rattle.std.proofs.Common.{◌≡◌, ℕ, zero, suc, ◌+◌, ◌<◌, Bool, true, false, cond, List, [], ◌∷◌, ◌++◌, length, get_or, take, Some, refl, sym, ◌∙◌, ap, arith}
use Rattle.std.specs.Prelude.{slice_get, is_some}
use Rattle.std.specs.List.{flat_map, list_any}
use Rattle.std.specs.Str.{bytes_eq}
use Rattle.std.proofs.lemmas.List.{take_more, flat_map_more}
use Rattle.std.proofs.lemmas.Option.{slice_get-get_or}
use Rattle.semantics.specs.declared.line.Line.{Line}
use Rattle.semantics.specs.Deck.{DeckValue, driver, nodes}
use Rattle.semantics.specs.Text.{wave_text}
use Rattle.semantics.specs.Wave.{wave}
use Rattle.semantics.proofs.Free.{is_among}
use Rattle.circuit_model.specs.declared.node_kind.NodeKind.{NodeKind}
use Rattle.circuit_model.specs.declared.node_kind.NodeKind.TheVariants.{Absent, Driven, Free}
use Rattle.circuit_model.specs.Numbers.{CircuitValue, kind_at, kind_of, name_at}
use Rattle.circuit_model.proofs.NodeKinds.{kind_here}

-- what stands at a place
pub at_place : {X : Type 0} (xs : List X) (i : ℕ) (x d : X) → i < length xs → slice_get xs i ≡ Some x → x ≡ get_or xs i d
at_place xs i x d below at = let k : Some x ≡ Some (get_or xs i d) = sym at ∙ slice_get-get_or xs i d below in cc

-- the wave of one node more
pub more : (d : DeckValue) (i : ℕ) (text new head : List ℕ) (n : List ℕ) (lines : List Line) → i < length (nodes d) → n ≡ get_or (nodes d) i [] → lines ≡ wave d n
    → text ≡ head ++ flat_map (λ m. wave_text m (wave d m)) (take i (nodes d)) → new ≡ text ++ wave_text n lines → new ≡ head ++ flat_map (λ m. wave_text m (wave d m)) (take (i + 1) (nodes d))
more d i text new head n lines below at is so grown =
    grown ∙ rw (so, is, at, take_more (nodes d) i [] below) (flat_map_more (λ m. wave_text m (wave d m)) head (take i (nodes d)) (get_or (nodes d) i []))

any_default : {X : Type 0} (xs : List X) (i : ℕ) (d e : X) → i < length xs → get_or xs i d ≡ get_or xs i e
any_default [] i d e below = absurd (omega (arith, below))
any_default (x ∷ xs) zero d e below = refl
any_default (x ∷ xs) (suc i) d e below = any_default xs i d e (omega (arith, below))

real_is : (b : Bool) → cond {A = NodeKind} b Driven Free ≡ Absent → ⊥
real_is true e = cc
real_is false e = cc

-- a circuit whose names are the nodes of its deck has no absent one
pub there : (c : CircuitValue) (i : ℕ) → c.names ≡ nodes c.deck → i < length (nodes c.deck) → kind_at c i ≡ Absent → ⊥
unfolding kind_of
there c i named below absent =
    let n : List ℕ = name_at c i in
    let at : n ≡ get_or (nodes c.deck) i [] = ap (λ (ns : List (List ℕ)). get_or ns i []) named in
    let among : list_any (bytes_eq n) (nodes c.deck) ≡ true = is_among (nodes c.deck) n (i, below, any_default (nodes c.deck) i n [] below ∙ sym at) in
    real_is (is_some (driver c.deck n)) (rw (among) at (sym (kind_here c i (rw (named) below)) ∙ absent))
