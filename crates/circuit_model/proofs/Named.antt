-- The names of nodes by number, and what the nodes of a deck make of them.
use Rattle.std.proofs.Common.{◌≡◌, ℕ, suc, ◌+◌, ◌^◌, ◌<◌, ◌≤◌, Bool, true, false, ◌||◌, List, [], ◌∷◌, ◌++◌, length, get_or, Option, Some, None, refl, sym, ◌∙◌, ap, subst, arith}
use Rattle.std.specs.Prelude.{is_some, slice_get, IfNone, IfSome}
use Rattle.std.specs.List.{fold, list_any}
use Rattle.std.specs.Str.{bytes_eq}
use Rattle.std.proofs.Math.Seq.{get_or-append_seam}
use Rattle.std.proofs.lemmas.Bool.{false≢true, cond-false, cond-true, cond_both, or_right}
use Rattle.std.proofs.lemmas.List.{append-nil, append_assoc, get_or_append_left, length-append, length_push}
use Rattle.std.proofs.lemmas.List.Folds.{list_any_at}
use Rattle.std.proofs.lemmas.List.Quantifiers.{position-Some}
use Rattle.std.proofs.lemmas.Option.{slice_get-get_or, slice_get_within}
use Rattle.semantics.specs.Ground.{is_ground}
use Rattle.semantics.specs.Deck.{DeckValue, nodes, with_node}
use Rattle.semantics.proofs.Nodes.{AreNodes, AreNodes-fold, AreNodes-nodes, position-node, same-bytes_eq, seen_all}
use Rattle.circuit_model.specs.Ends.{number}
use Rattle.circuit_model.specs.Names.{AreNames, HasNodes, with_nodes}
use Rattle.circuit_model.proofs.Leads.{position_from_none}

pub nodes_from : (names : List (List ℕ)) → AreNames names → AreNodes names
nodes_from names n = record { apart = n.apart; real = n.real }

none_in : {X : Type 0} (p : X → Bool) (xs : List X) (d : X) → ((i : ℕ) → i < length xs → p (get_or xs i d) ≡ false) → list_any p xs ≡ false
none_in p [] d each = refl
none_in p (x ∷ xs) d each = rw (each 0 (omega arith), none_in p xs d (λ i h. each (suc i) (omega arith))) refl

both_false : (a b : Bool) → a ≡ false → b ≡ false → (a || b) ≡ false
both_false a b p q = rw (p, q) refl

-- ---- one name more

pub with_new : (names : List (List ℕ)) (n : List ℕ) → is_ground n ≡ false → list_any (bytes_eq n) names ≡ false → with_node names n ≡ names ++ n ∷ []
with_new names n real new = cond-false (is_ground n || list_any (bytes_eq n) names) names (names ++ n ∷ []) (both_false (is_ground n) (list_any (bytes_eq n) names) real new)

pub with_old : (names : List (List ℕ)) (n : List ℕ) → list_any (bytes_eq n) names ≡ true → with_node names n ≡ names
with_old names n old = cond-true (is_ground n || list_any (bytes_eq n) names) names (names ++ n ∷ []) (or_right _ _ old)

length_with : (names : List (List ℕ)) (n : List ℕ) → length (with_node names n) ≤ length names + 1
length_with names n = cond_both (is_ground n || list_any (bytes_eq n) names) names (names ++ n ∷ []) (λ xs. length xs ≤ length names + 1) (λ _. omega arith) (λ _. omega (arith, length_push names n))

-- ---- many names more

-- names of which none stands twice are taken as they are
pub with_all : (names more : List (List ℕ)) → AreNodes (names ++ more) → fold with_node names more ≡ names ++ more
with_all names [] are = sym (append-nil names)
with_all names (n ∷ more) are =
    let here : get_or (names ++ n ∷ more) (length names) [] ≡ n = get_or-append_seam names n more [] in
    let count = length-append names (n ∷ more) in
    let real : is_ground n ≡ false = subst (λ m. is_ground m ≡ false) here (are.real (length names) (omega (arith, count))) in
    let new : list_any (bytes_eq n) names ≡ false = none_in (bytes_eq n) names [] (λ i h.
    subst (λ m. bytes_eq m (get_or names i []) ≡ false) here (subst (λ m. bytes_eq (get_or (names ++ n ∷ more) (length names) []) m ≡ false) (get_or_append_left names (n ∷ more) [] i h) (are.apart i (length names) h (omega (arith, count))))) in
    let moved : (names ++ n ∷ []) ++ more ≡ names ++ n ∷ more = append_assoc names (n ∷ []) more in
    ap (λ xs. fold with_node xs more) (with_new names n real new) ∙ with_all (names ++ n ∷ []) more (subst AreNodes (sym moved) are) ∙ moved

pub with_nodes_none : (d : DeckValue) → with_nodes [] d ≡ nodes d
unfolding with_nodes
with_nodes_none d = with_all [] (nodes d) (AreNodes-nodes d)

-- names that are there change nothing
with_kept : (names more : List (List ℕ)) → ((i : ℕ) → i < length more → list_any (bytes_eq (get_or more i [])) names ≡ true) → fold with_node names more ≡ names
with_kept names [] there = refl
with_kept names (n ∷ more) there = ap (λ xs. fold with_node xs more) (with_old names n (there 0 (omega arith))) ∙ with_kept names more (λ i h. there (suc i) (omega arith))

pub with_nodes_kept : (d : DeckValue) (names : List (List ℕ)) → HasNodes d names → with_nodes names d ≡ names
unfolding with_nodes
with_nodes_kept d names has = with_kept names (nodes d) has

length_more : (names more : List (List ℕ)) → length (fold with_node names more) ≤ length names + length more
length_more names [] = omega arith
length_more names (n ∷ more) = omega (arith, length_more (with_node names n) more, length_with names n)

-- the names with the nodes of a deck are names, and the nodes are among them
pub with_nodes_are : (d : DeckValue) (names : List (List ℕ)) → AreNames names → length names + length (nodes d) < 2 ^ 32 → AreNames (with_nodes names d)
unfolding with_nodes
with_nodes_are d names are room =
    let all = AreNodes-fold names (nodes d) (nodes_from names are) in
    record { apart = all.apart; real = all.real; few = omega (arith, length_more names (nodes d)) }

pub with_nodes_has : (d : DeckValue) (names : List (List ℕ)) → HasNodes d (with_nodes names d)
unfolding with_nodes
with_nodes_has d names = λ i below. seen_all names (nodes d) i below ((AreNodes-nodes d).real i below)

-- ---- numbers

pub numbered_any : (names : List (List ℕ)) (n : List ℕ) (i : ℕ) → number names n ≡ Some i → list_any (bytes_eq n) names ≡ true
numbered_any names n i is = let at = position-Some (bytes_eq n) names i [] is in list_any_at (bytes_eq n) names i [] at.0 at.1

pub found_any : (names : List (List ℕ)) (n : List ℕ) (o : Option ℕ) → o ≡ number names n → is_some o ≡ true → list_any (bytes_eq n) names ≡ true
found_any names n None is some = absurd (false≢true some)
found_any names n (Some i) is some = numbered_any names n i (sym is)

pub numbered_at : (names : List (List ℕ)) (n : List ℕ) (i : ℕ) → number names n ≡ Some i → slice_get names i ≡ Some n
numbered_at names n i is =
    let at = position-Some (bytes_eq n) names i [] is in
    slice_get-get_or names i [] at.0 ∙ ap Some (sym (same-bytes_eq n (get_or names i []) at.1))

-- what a deck answers for a name is its place among the nodes
pub place_is : (d : DeckValue) (n : List ℕ) (o : Option ℕ) → IfSome o (λ i. slice_get (nodes d) i ≡ Some n) → IfNone o (list_any (bytes_eq n) (nodes d) ≡ false) → o ≡ number (nodes d) n
place_is d n None some none = sym (position_from_none (bytes_eq n) (nodes d) none)
place_is d n (Some i) some none =
    let below : i < length (nodes d) = slice_get_within (nodes d) i n some in
    let same : Some (get_or (nodes d) i []) ≡ Some n = sym (slice_get-get_or (nodes d) i [] below) ∙ some in
    sym (position-node (nodes d) i n (AreNodes-nodes d) below (cc))
