-- The elements of a circuit and the sets beside them.
use Rattle.std.proofs.Common.{◌≡◌, ℕ, Bool, true, false, not, if◌then◌else◌, List, [], ◌∷◌, ◌++◌, length, map, fold, Option, Some, None, Ok, Err, refl, sym, ◌∙◌, ap, append-nil}
use Rattle.std.proofs.lemmas.Grind.{flat_map-append, fold-append}
use Rattle.deck_cards.specs.declared.which.Which.TheVariants.{Nodes}
use Rattle.std.specs.Prelude.{nat_lt}
use Rattle.std.specs.List.{list_any, flat_map}
use Rattle.std.specs.Str.{bytes_eq}
use Rattle.std.proofs.lemmas.List.{map-append}
use Rattle.semantics.specs.declared.element.Element.{Element}
use Rattle.semantics.specs.Deck.{name_of, ends_of, with_node}
use Rattle.semantics.specs.Valid.{is_grounded, driven_of}
use Rattle.deck_cards.specs.Causes.{first_that, is_named, is_driven}
use Rattle.deck_reader.specs.declared.why.DeckWhy.{DeckWhy}
use Rattle.deck_reader.specs.declared.why.DeckWhy.TheVariants.{TwoDrivers, Limit}
use Rattle.deck_reader.specs.Words.{Word}
use Rattle.deck_reader.specs.Circuit.{Circuit, elements_of, nodes_of, element_fault, with_placed}
use Rattle.deck_reader.specs.Indexed.{IsIndexed}
use Rattle.deck_cards.proofs.Once.{any_map}

-- whether an element has a name, by the names of all
pub named_by : (circuit now : Circuit) (names : List Word) (n : Word) → names ≡ map name_of (elements_of circuit) → circuit ≡ now
    → list_any (bytes_eq n) names ≡ is_named (elements_of now) n
named_by circuit now names n same is =
    ap (list_any (bytes_eq n)) same ∙ any_map (bytes_eq n) name_of (elements_of circuit) ∙ ap (λ c. is_named (elements_of c) n) is

-- the elements of one more card
elements_of-more : (circuit : Circuit) (line : ℕ) (e : Element) → elements_of (circuit ++ (line, e) ∷ []) ≡ elements_of circuit ++ e ∷ []
elements_of-more circuit line e = map-append (λ (at : ℕ × Element). at.1) circuit ((line, e) ∷ [])

-- what all elements have of one more, behind that of those before
flat_map-more : {A : Type 0} (f : Element → List A) (circuit : Circuit) (line : ℕ) (e : Element) → flat_map f (elements_of (circuit ++ (line, e) ∷ [])) ≡ flat_map f (elements_of circuit) ++ f e
flat_map-more f circuit line e =
    ap (flat_map f) (elements_of-more circuit line e) ∙ flat_map-append f (elements_of circuit) (e ∷ []) ∙ ap (λ l. flat_map f (elements_of circuit) ++ l) (append-nil (f e))

-- the nodes of one more element
nodes_of-more : (circuit : Circuit) (line : ℕ) (e : Element) → nodes_of (circuit ++ (line, e) ∷ []) ≡ fold with_node (nodes_of circuit) (ends_of e)
unfolding nodes_of
nodes_of-more circuit line e =
    ap (fold with_node []) (flat_map-more ends_of circuit line e) ∙ fold-append with_node [] (flat_map ends_of (elements_of circuit)) (ends_of e)

-- the sets of one more element
pub indexed_more : (circuit : Circuit) (line : ℕ) (e : Element) (names driven ends : List Word) → IsIndexed circuit names driven ends
    → IsIndexed (circuit ++ (line, e) ∷ []) (names ++ name_of e ∷ []) (driven ++ driven_of e) (fold with_node ends (ends_of e))
indexed_more circuit line e names driven ends is = record {
  named =
      ap (λ ns. ns ++ name_of e ∷ []) is.named
      ∙ sym (ap (map name_of) (elements_of-more circuit line e) ∙ map-append name_of (elements_of circuit) (e ∷ []));
  drives = ap (λ ns. ns ++ driven_of e) is.drives ∙ sym (flat_map-more driven_of circuit line e);
  nodes = ap (λ ns. fold with_node ns (ends_of e)) is.nodes ∙ sym (nodes_of-more circuit line e);
}

-- the same of the sets that stand for these
pub indexed : (circuit : Circuit) (names driven ends : List Word) (circuit' : Circuit) (names' driven' ends' : List Word)
    → IsIndexed circuit names driven ends → circuit' ≡ circuit → names' ≡ names → driven' ≡ driven → ends' ≡ ends → IsIndexed circuit' names' driven' ends'
indexed circuit names driven ends circuit' names' driven' ends' is a b c d = record {
  named = b ∙ is.named ∙ ap (λ l. map name_of (elements_of l)) (sym a);
  drives = c ∙ is.drives ∙ ap (λ l. flat_map driven_of (elements_of l)) (sym a);
  nodes = d ∙ is.nodes ∙ ap nodes_of (sym a);
}

-- what an element has that may stand behind others
pub record IsClear (circuit : Circuit) (e : Element) : Type 0 where
  pub named : is_named (elements_of circuit) (name_of e) ≡ false
  pub grounded : is_grounded e ≡ true
  pub free : first_that (is_driven (elements_of circuit)) (driven_of e) ≡ None

clear : (named grounded : Bool) (driven : Option Word) (x y : DeckWhy) (rest : Option DeckWhy)
    → (if named then Some x else if not grounded then Some y else elim driven [ Some node ↦ Some (TwoDrivers node) | None ↦ rest ]) ≡ None
    → (named ≡ false) × (grounded ≡ true) × (driven ≡ None)
clear true grounded driven x y rest is = absurd (cc)
clear false false driven x y rest is = absurd (cc)
clear false true (Some node) x y rest is = absurd (cc)
clear false true None x y rest is = (refl, refl, refl)

pub is_clear : (circuit : Circuit) (e : Element) → element_fault circuit e ≡ None → IsClear circuit e
unfolding element_fault
is_clear circuit e is =
    let all = clear (is_named (elements_of circuit) (name_of e)) (is_grounded e) (first_that (is_driven (elements_of circuit)) (driven_of e)) _ _ _ is in
    record { named = all.0; grounded = all.1; free = all.2 }

-- one more element, whose nodes are these
pub with_placed-at : (inside circuit : Circuit) (line : ℕ) (e : Element) (ends before : List Word) (over : Bool)
    → inside ≡ circuit → before ≡ nodes_of inside → ends ≡ fold with_node before (ends_of e) → over ≡ nat_lt 100000 (length ends)
    → with_placed circuit line e ≡ (if over then Err (Limit Nodes (name_of e)) else Ok (circuit ++ (line, e) ∷ []))
unfolding with_placed
with_placed-at inside circuit line e ends before over same known grown is =
    let nodes : nodes_of (circuit ++ (line, e) ∷ []) ≡ ends =
    nodes_of-more circuit line e ∙ ap (λ l. fold with_node l (ends_of e)) (ap nodes_of (sym same) ∙ sym known) ∙ sym grown in
    let test : nat_lt 100000 (length (nodes_of (circuit ++ (line, e) ∷ []))) ≡ over = ap (λ ns. nat_lt 100000 (length ns)) nodes ∙ sym is in
    ap (λ b. if b then Err (Limit Nodes (name_of e)) else Ok (circuit ++ (line, e) ∷ [])) test
