-- Another capacitance changes the sum at the capacitor's node and nothing else that is kept of names and nodes, and
-- only the value and that sum can be against it.
use Rattle.std.proofs.Common.{◌≡◌, ◌∙◌, ℕ, ◌^◌, ℤ, pos, ◌+ℤ◌, ◌-ℤ◌, int_le, SFits, w64, Bool, true, false, not, ◌&&◌}
use Rattle.std.proofs.Common.{◌||◌, cond, if◌then◌else◌, List, [], ◌∷◌, ◌++◌, map, filter, fold, get_or, position}
use Rattle.std.proofs.Common.{Option, Some, None, is_none, is_some, unwrap_or, option_and_then, refl, sym, ap, subst}
use Rattle.std.proofs.Common.{arith}
use Rattle.std.specs.Int.{w128}
use Rattle.std.specs.List.{list_all, list_any, flat_map}
use Rattle.std.specs.Option.{option_map, option_or}
use Rattle.std.specs.Ordering.{int_eq}
use Rattle.std.specs.Str.{bytes_eq}
use Rattle.std.proofs.lemmas.Bool.{false≢true}
use Rattle.std.proofs.lemmas.Int.{ints, fits_signed_from_abs}
use Rattle.std.proofs.lemmas.Option.{none-some}
use Rattle.semantics.specs.Ground.{is_ground}
use Rattle.semantics.specs.declared.element.Element.{Element}
use Rattle.semantics.specs.declared.element.Element.TheVariants.{Resistor, Capacitor, Source, Mos}
use Rattle.semantics.specs.Deck.{DeckValue, name_of, nodes, free_nodes, driver, drives, ends_of, with_node}
use Rattle.semantics.specs.Deck.{total_farads, farads_at}
use Rattle.semantics.specs.Neighbours.{is_free}
use Rattle.semantics.specs.Valid.{is_valid, is_grounded, one_ground}
use Rattle.deck_cards.specs.declared.edit_refusal.EditRefusal.{EditRefusal}
use Rattle.deck_cards.specs.declared.edit_refusal.EditRefusal.TheVariants.{NoSuchName, WrongKind, Uncapped, Limit}
use Rattle.deck_cards.specs.declared.edit_refusal.EditRefusal.TheVariants.{Memory}
use Rattle.deck_cards.specs.declared.which.Which.TheVariants.{NodeFarads}
use Rattle.deck_cards.specs.declared.facts.NodeFacts.{NodeFacts}
use Rattle.deck_cards.specs.declared.edit.Edit.{Edit}
use Rattle.deck_cards.specs.declared.edit.Edit.TheVariants.{SetC}
use Rattle.deck_cards.specs.Answers.{Refuses}
use Rattle.deck_cards.specs.AtNode.{IsAtNode, capacitor_of, free_farads, sum_cause, node_cause, known_with}
use Rattle.deck_cards.specs.Causes.{when, first_that, uncapped, node_farads, whole_with}
use Rattle.deck_cards.specs.Edits.{edit_cause, edit_limit, edited, named, place_cause, with_farads}
use Rattle.deck_cards.specs.Facts.{IsIndex, IsTable, known, source_of, farads_of}
use Rattle.deck_cards.proofs.Accepted.{fits, found_cause, kind_cause, stays_valid}
use Rattle.deck_cards.proofs.Alone.{place_swap}
use Rattle.deck_cards.proofs.Firsts.{none_that, none_map, or_none, refuses_first}
use Rattle.deck_cards.proofs.Known.{no_farads}
use Rattle.deck_cards.proofs.Meaning.{capacity_small, driver_known}
use Rattle.deck_cards.proofs.Named.{and_both, from_not, name_turned, named_at, read_named, same_name}
use Rattle.deck_cards.proofs.Standing.{Stands, elements_to, found}
use Rattle.deck_cards.proofs.Swapped.{map_swap, middle}
use Rattle.deck_cards.proofs.Touched.{SameNodes, free_same, left, swapped}
use Rattle.deck_cards.proofs.Validity.{valid_clear}

-- ---- sums

-- a sum that begins higher ends higher
sum_from : (g : Element → ℤ) (es : List Element) (t a : ℤ)
    → fold (λ total e. total +ℤ g e) (t +ℤ a) es ≡ fold (λ total e. total +ℤ g e) t es +ℤ a
sum_from g [] t a = refl
sum_from g (e ∷ es) t a = ap (λ z. fold (λ total x. total +ℤ g x) z es) (turned t a (g e)) ∙ sum_from g es (t +ℤ g e) a
  where
    turned : (t a b : ℤ) → (t +ℤ a) +ℤ b ≡ (t +ℤ b) +ℤ a
    turned t a b = omega (arith, ints)

-- and so does one in which one element counts for more
sum_swap : (g : Element → ℤ) (x y : Element) (before after : List Element) (t a : ℤ) → g y ≡ g x +ℤ a
    → fold (λ total e. total +ℤ g e) t (before ++ (y ∷ after)) ≡ fold (λ total e. total +ℤ g e) t (before ++ (x ∷ after)) +ℤ a
sum_swap g x y [] after t a more = ap (λ z. fold (λ total e. total +ℤ g e) z after) (ap (λ z. t +ℤ z) more ∙ grouped t (g x) a) ∙ sum_from g after (t +ℤ g x) a
  where
    grouped : (t b a : ℤ) → t +ℤ (b +ℤ a) ≡ (t +ℤ b) +ℤ a
    grouped t b a = omega (arith, ints)
sum_swap g x y (b ∷ before) after t a more = sum_swap g x y before after (t +ℤ g b) a more

-- ---- names that are not ground

map_where : {A : Type 0} (p : List ℕ → Bool) (f g : List ℕ → A) → ((n : List ℕ) → p n ≡ true → f n ≡ g n)
    → (ns : List (List ℕ)) → list_all p ns ≡ true → map f ns ≡ map g ns
map_where p f g each [] all = refl
map_where p f g each (n ∷ ns) all = let h = and_both (p n) (list_all p ns) all in λ i. each n h.0 i ∷ map_where p f g each ns h.1 i

all_push : (p : List ℕ → Bool) (ns : List (List ℕ)) (n : List ℕ) → list_all p ns ≡ true → p n ≡ true
    → list_all p (ns ++ n ∷ []) ≡ true
all_push p [] n all is = λ i. is i && true
all_push p (m ∷ ms) n all is = let h = and_both (p m) (list_all p ms) all in λ i. h.0 i && all_push p ms n h.1 is i

all_filter : (p q : List ℕ → Bool) (ns : List (List ℕ)) → list_all p ns ≡ true → list_all p (filter q ns) ≡ true
all_filter p q [] all = refl
all_filter p q (n ∷ ns) all = by (q n) (and_both (p n) (list_all p ns) all) (all_filter p q ns)
  where
    by : (b : Bool) → (p n ≡ true) × (list_all p ns ≡ true) → (list_all p ns ≡ true → list_all p (filter q ns) ≡ true)
        → list_all p (cond b (n ∷ filter q ns) (filter q ns)) ≡ true
    by true h rest = λ i. h.0 i && rest h.1 i
    by false h rest = rest h.1

-- ground is no node
abbrev is_real : List ℕ → Bool
is_real n = not (is_ground n)

real_with : (seen : List (List ℕ)) (n : List ℕ) → list_all is_real seen ≡ true
    → list_all is_real (with_node seen n) ≡ true
real_with seen n all = by (is_ground n) (list_any (bytes_eq n) seen) refl
  where
    by : (a b : Bool) → is_ground n ≡ a → list_all is_real (cond (a || b) seen (seen ++ n ∷ [])) ≡ true
    by true b is = all
    by false true is = all
    by false false is = all_push is_real seen n all (ap not is)

real_fold : (names seen : List (List ℕ)) → list_all is_real seen ≡ true
    → list_all is_real (fold with_node seen names) ≡ true
real_fold [] seen all = all
real_fold (n ∷ ns) seen all = real_fold ns (with_node seen n) (real_with seen n all)

real_nodes : (d : DeckValue) → list_all is_real (nodes d) ≡ true
unfolding nodes
real_nodes d = real_fold (flat_map ends_of d.elements) [] refl

real_free : (d : DeckValue) → list_all is_real (free_nodes d) ≡ true
unfolding free_nodes
real_free d = all_filter is_real (λ n. is_none (driver d n)) (nodes d) (real_nodes d)

-- a name that is not ground is at a capacitor's end where it is its node
apart : (n m : List ℕ) → is_ground n ≡ false → is_ground m ≡ true → bytes_eq n m ≡ false
apart n m real ground = by (bytes_eq n m) refl
  where
    by : (b : Bool) → bytes_eq n m ≡ b → b ≡ false
    by true is = absurd (false≢true (sym real ∙ ap is_ground (same_name n m is) ∙ ground))
    by false is = refl

only_end : (n plus minus : List ℕ) → one_ground plus minus ≡ true → is_ground n ≡ false
    → (bytes_eq n plus || bytes_eq n minus) ≡ bytes_eq n (if is_ground plus then minus else plus)
only_end n plus minus one real = by (is_ground plus) refl one
  where
    no_more : (b : Bool) → (b || false) ≡ b
    no_more true = refl
    no_more false = refl

    by : (b : Bool) → is_ground plus ≡ b → cond b (not (is_ground minus)) (is_ground minus) ≡ true
        → (bytes_eq n plus || bytes_eq n minus) ≡ bytes_eq n (cond b minus plus)
    by true is rest = λ i. apart n plus real is i || bytes_eq n minus
    by false is rest = (λ i. bytes_eq n plus || apart n minus real rest i) ∙ no_more (bytes_eq n plus)

-- ---- the first of some names that passes, where only one of them can

none_of : (a : Bool) → (a && false) ≡ false
none_of true = refl
none_of false = refl

only_at : (node : List ℕ) (p q : List ℕ → Bool) (ns : List (List ℕ)) → list_all (λ n. not (p n)) ns ≡ true
    → list_all is_real ns ≡ true
    → ((n : List ℕ) → is_ground n ≡ false → bytes_eq node n ≡ false → q n ≡ p n)
    → first_that q ns ≡ when (list_any (bytes_eq node) ns && q node) node
only_at node p q [] none real others = refl
only_at node p q (n ∷ ns) none real others = by (bytes_eq node n) refl (only_at node p q ns off.1 are.1 others)
  where
    off : (not (p n) ≡ true) × (list_all (λ m. not (p m)) ns ≡ true)
    off = and_both (not (p n)) (list_all (λ m. not (p m)) ns) none

    are : (is_real n ≡ true) × (list_all is_real ns ≡ true)
    are = and_both (is_real n) (list_all is_real ns) real

    hit : (c : Bool) → q node ≡ c → first_that q ns ≡ when (list_any (bytes_eq node) ns && q node) node
        → ◌≡◌ {A = Option (List ℕ)} (elim (when c node) [ None ↦ first_that q ns | Some y ↦ Some y ]) (when c node)
    hit true is rest = refl
    hit false is rest = rest
        ∙ (λ i. when ((ap (λ c. list_any (bytes_eq node) ns && c) is ∙ none_of (list_any (bytes_eq node) ns)) i) node)

    by : (b : Bool) → bytes_eq node n ≡ b → first_that q ns ≡ when (list_any (bytes_eq node) ns && q node) node
        → ◌≡◌ {A = Option (List ℕ)} (elim (when (q n) n) [ None ↦ first_that q ns | Some y ↦ Some y ]) (when ((b || list_any (bytes_eq node) ns) && q node) node)
    by true here rest =
        subst (λ m. ◌≡◌ {A = Option (List ℕ)} (elim (when (q m) m) [ None ↦ first_that q ns | Some y ↦ Some y ]) (when (q node) node)) (same_name node n here) (hit (q node) refl rest)
    by false other rest =
        let fails : q n ≡ false = others n (from_not (is_ground n) are.0) other ∙ from_not (p n) off.0 in
        (λ i. elim (when (fails i) n) as (λ _. Option (List ℕ)) [ None ↦ first_that q ns | Some y ↦ Some y ]) ∙ rest

-- ---- the causes at one node

joined : (node : List ℕ) (value : Option EditRefusal) (sum : ℤ) (free : Bool)
    → option_or (option_map Uncapped (when (free && int_eq sum (pos 0)) node)) (option_or value (option_map (Limit NodeFarads) (when (free && not (int_le sum (pos (10 ^ 12)))) node)))
    ≡ elim (when free sum) as (λ _. Option EditRefusal) [ None ↦ value | Some total ↦ sum_cause node value total ]
joined node value sum false = or_none value
joined node value sum true = by (int_eq sum (pos 0)) (not (int_le sum (pos (10 ^ 12))))
  where
    by : (none much : Bool)
        → option_or (option_map Uncapped (when none node)) (option_or value (option_map (Limit NodeFarads) (when much node)))
        ≡ option_or (when none (Uncapped node)) (option_or value (option_or (when much (Limit NodeFarads node)) None))
    by true much = refl
    by false true = refl
    by false false = refl

-- where the sum of a node may have changed and of no other
module _ (d new : DeckValue) (node : List ℕ) (valid : is_valid d ≡ true) (same : SameNodes d new)
    (others : (n : List ℕ) → is_ground n ≡ false → bytes_eq node n ≡ false → total_farads new n ≡ total_farads d n) where
  capped_at : uncapped new ≡ option_map Uncapped (when (is_free new node && int_eq (total_farads new node) (pos 0)) node)
  unfolding uncapped is_free
  capped_at =
      let old = none_that (λ n. int_eq (total_farads d n) (pos 0)) (free_nodes d) (none_map Uncapped _ (valid_clear d valid).capped) in
      ap (option_map Uncapped) (only_at node (λ n. int_eq (total_farads d n) (pos 0)) (λ n. int_eq (total_farads new n) (pos 0)) (free_nodes new)
      (subst (λ ns. list_all (λ n. not (int_eq (total_farads d n) (pos 0))) ns ≡ true) (sym (free_same d new same)) old) (real_free new)
      (λ n real other. ap (λ z. int_eq z (pos 0)) (others n real other)))

  farads_at_node : node_farads new ≡ option_map (Limit NodeFarads) (when (is_free new node && not (int_le (total_farads new node) (pos (10 ^ 12)))) node)
  unfolding node_farads is_free
  farads_at_node =
      let old = none_that (λ n. not (int_le (total_farads d n) (pos (10 ^ 12)))) (free_nodes d) (none_map (Limit NodeFarads) _ (valid_clear d valid).farads) in
      ap (option_map (Limit NodeFarads)) (only_at node (λ n. not (int_le (total_farads d n) (pos (10 ^ 12)))) (λ n. not (int_le (total_farads new n) (pos (10 ^ 12)))) (free_nodes new)
      (subst (λ ns. list_all (λ n. not (not (int_le (total_farads d n) (pos (10 ^ 12))))) ns ≡ true) (sym (free_same d new same)) old) (real_free new)
      (λ n real other. ap (λ z. not (int_le z (pos (10 ^ 12)))) (others n real other)))

  whole_at : (value : Option EditRefusal) → whole_with value new ≡ node_cause new node value
  whole_at value = left d new value _ _ valid same capped_at farads_at_node
      ∙ joined node value (total_farads new node) (is_free new node)

-- ---- another capacitance

module _ (d : DeckValue) (name : List ℕ) (farads : ℤ) (own plus minus : List ℕ) (was : ℤ) (valid : is_valid d ≡ true) (at : named name d.elements ≡ Some (Capacitor own plus minus was)) where
  abbrev held : Element
  held = Capacitor own plus minus was

  abbrev set : Element
  set = Capacitor own plus minus farads

  abbrev edit : Edit
  edit = SetC name farads

  abbrev own_node : List ℕ
  own_node = if is_ground plus then minus else plus

  s : Stands name d.elements held
  s = found name d.elements held (fits d valid).names at

  abbrev new : DeckValue
  new = elements_to d (s.before ++ (set ∷ s.after))

  made : edited d edit ≡ new
  unfolding edited
  made = ap (elements_to d) (s.set (with_farads farads))

  placed : place_cause d edit ≡ None
  unfolding place_cause
  placed = ap (found_cause d name (with_farads farads)) at

  same : SameNodes d new
  same = swapped d s.before s.after held set s.was (record { ends = refl; drives = λ n. refl; terminals = λ n. refl })

  one : one_ground plus minus ≡ true
  one = middle is_grounded s.before held s.after (ap (list_all is_grounded) (sym s.was) ∙ (fits d valid).grounded)

  more_at : (n : List ℕ)
      → total_farads new n ≡ total_farads d n +ℤ (if bytes_eq n plus || bytes_eq n minus then farads -ℤ was else pos 0)
  unfolding total_farads
  more_at n = sum_swap (farads_at n) held set s.before s.after (pos 0) _ (step (bytes_eq n plus || bytes_eq n minus))
      ∙ ap (λ es. fold (λ total e. total +ℤ farads_at n e) (pos 0) es +ℤ (if bytes_eq n plus || bytes_eq n minus then farads -ℤ was else pos 0)) (sym s.was)
    where
      step : (b : Bool) → cond b farads (pos 0) ≡ cond b was (pos 0) +ℤ cond b (farads -ℤ was) (pos 0)
      step true = omega (arith, ints)
      step false = refl

  sum_at : (n : List ℕ) → is_ground n ≡ false
      → total_farads new n ≡ total_farads d n +ℤ (if bytes_eq n own_node then farads -ℤ was else pos 0)
  sum_at n real = more_at n
      ∙ ap (λ b. total_farads d n +ℤ (if b then farads -ℤ was else pos 0)) (only_end n plus minus one real)

  others_same : (n : List ℕ) → is_ground n ≡ false → bytes_eq own_node n ≡ false → total_farads new n ≡ total_farads d n
  others_same n real other = sum_at n real
      ∙ ap (λ b. total_farads d n +ℤ (if b then farads -ℤ was else pos 0)) (name_turned n own_node ∙ other)
      ∙ sym (no_farads (total_farads d n))

  cause_at : edit_cause d edit ≡ node_cause (edited d edit) own_node (edit_limit edit)
  unfolding edit_cause
  cause_at = (λ i. option_or (placed i) (whole_with (edit_limit edit) (made i)))
      ∙ whole_at d new own_node valid same others_same (edit_limit edit)
      ∙ (λ i. node_cause (sym made i) own_node (edit_limit edit))

  known_at : (n : List ℕ) → is_real n ≡ true
      → (if bytes_eq n own_node then record (known d.elements n) { farads = (known d.elements n).farads +ℤ (farads -ℤ was) } else known d.elements n) ≡ known new.elements n
  unfolding total_farads source_of farads_of
  known_at n real =
      by (bytes_eq n own_node) ∙ sym (λ i. record {
        source = (sym (place_swap (λ e. is_some (drives n e)) held set s.before s.after refl) ∙ ap (source_of n) (sym s.was)) i;
        farads = sum_at n (from_not (is_ground n) real) i;
      })
    where
      by : (b : Bool)
          → cond b (record (known d.elements n) { farads = (known d.elements n).farads +ℤ (farads -ℤ was) }) (known d.elements n)
          ≡ record { source = source_of n d.elements; farads = farads_of n d.elements +ℤ cond b (farads -ℤ was) (pos 0) }
      by true = refl
      by false = λ i. record { source = source_of n d.elements; farads = no_farads (farads_of n d.elements) i }

  table_at : IsTable (edited d edit) (nodes d) (known_with d own_node (farads -ℤ was))
  table_at = subst (λ x. IsTable x (nodes d) (known_with d own_node (farads -ℤ was))) (sym made) (record {
    names = sym same.names;
    facts = map_where is_real _ (known new.elements) known_at (nodes d) (real_nodes d)
        ∙ ap (map (known new.elements)) (sym same.names);
  })

  index_at : edit_cause d edit ≡ None
      → IsIndex (edited d edit) (map name_of d.elements) (nodes d) (known_with d own_node (farads -ℤ was))
  index_at none = record {
    valid = stays_valid d edit valid refl none;
    names = ap (map name_of) s.was ∙ map_swap name_of held set s.before s.after refl
        ∙ ap (λ x. map name_of x.elements) (sym made);
    table = table_at;
  }

  room_at : SFits w64 farads → SFits w64 was → (n : List ℕ) → SFits w128 (farads_of n d.elements +ℤ (farads -ℤ was))
  unfolding total_farads farads_of
  room_at fits_farads fits_was n =
      let small = capacity_small d n valid in
      fits_signed_from_abs w128 (farads_of n d.elements +ℤ (farads -ℤ was)) (omega (arith, ints, fits_farads, fits_was, small))

  is_at_node : SFits w64 farads → SFits w64 was → IsAtNode d name own_node (farads -ℤ was) edit
  unfolding edited
  is_at_node fits_farads fits_was = record { cause = cause_at; sets = refl; room = room_at fits_farads fits_was; table = table_at; index = index_at }

-- the node and the capacitance of a capacitor
pair_is : (node : List ℕ) (was : ℤ) (p : List ℕ × ℤ) → Some p ≡ Some (node, was) → p ≡ (node, was)
pair_is node was p is = ap (λ o. unwrap_or o p) is

pub at_node : (d : DeckValue) (name : List ℕ) (farads more : ℤ) (x : Element) (node : List ℕ) (was : ℤ)
    → is_valid d ≡ true → named name d.elements ≡ Some x → capacitor_of x ≡ Some (node, was)
    → SFits w64 farads → SFits w64 was → more ≡ farads -ℤ was → IsAtNode d name node more (SetC name farads)
at_node d name farads more (Capacitor own plus minus old) node was valid at is fits_farads fits_was sum =
    let pair = pair_is node was _ is in
    subst (λ z. IsAtNode d name node z (SetC name farads)) (sym sum)
    (subst (λ (p : List ℕ × ℤ). SFits w64 p.1 → IsAtNode d name p.0 (farads -ℤ p.1) (SetC name farads)) pair (is_at_node d name farads own plus minus old valid at fits_farads) fits_was)
at_node d name farads more (Resistor own first second ohms) node was valid at is fits_farads fits_was sum = absurd (none-some _ is)
at_node d name farads more (Source own plus minus wave) node was valid at is fits_farads fits_was sum = absurd (none-some _ is)
at_node d name farads more (Mos own drain gate source bulk part len width) node was valid at is fits_farads fits_was sum = absurd (none-some _ is)

-- only the value, and the sum at the capacitor's node, can be against it
pub set_capacitance : (d : DeckValue) (name node : List ℕ) (was farads : ℤ) → is_valid d ≡ true
    → option_and_then capacitor_of (named name d.elements) ≡ Some (node, was)
    → edit_cause d (SetC name farads) ≡ node_cause (edited d (SetC name farads)) node (edit_limit (SetC name farads))
set_capacitance d name node was farads valid = by (named name d.elements) refl
  where
    kind : (x : Element) → named name d.elements ≡ Some x → capacitor_of x ≡ Some (node, was)
        → edit_cause d (SetC name farads) ≡ node_cause (edited d (SetC name farads)) node (edit_limit (SetC name farads))
    kind (Capacitor own plus minus old) at is =
        subst (λ (p : List ℕ × ℤ). edit_cause d (SetC name farads) ≡ node_cause (edited d (SetC name farads)) p.0 (edit_limit (SetC name farads))) (pair_is node was _ is)
        (cause_at d name farads own plus minus old valid at)
    kind (Resistor own first second ohms) at is = absurd (none-some _ is)
    kind (Source own plus minus wave) at is = absurd (none-some _ is)
    kind (Mos own drain gate source bulk part len width) at is = absurd (none-some _ is)

    by : (o : Option Element) → named name d.elements ≡ o → option_and_then capacitor_of o ≡ Some (node, was)
        → edit_cause d (SetC name farads) ≡ node_cause (edited d (SetC name farads)) node (edit_limit (SetC name farads))
    by None at is = absurd (none-some _ is)
    by (Some x) at is = kind x at is

no_capacitor : (farads : ℤ) (x : Element) → capacitor_of x ≡ None → with_farads farads x ≡ None
no_capacitor farads (Capacitor own plus minus was) none = absurd (none-some _ (sym none))
no_capacitor farads (Resistor own first second ohms) none = refl
no_capacitor farads (Source own plus minus wave) none = refl
no_capacitor farads (Mos own drain gate source bulk part len width) none = refl

pub wrong_kind : (d : DeckValue) (name : List ℕ) (farads : ℤ) (x : Element) → named name d.elements ≡ Some x
    → capacitor_of x ≡ None → edit_cause d (SetC name farads) ≡ Some (WrongKind name)
unfolding edit_cause place_cause
wrong_kind d name farads x at none =
    ap (λ o. option_or o (whole_with (edit_limit (SetC name farads)) (edited d (SetC name farads)))) (ap (found_cause d name (with_farads farads)) at ∙ ap (kind_cause d name) (no_capacitor farads x none))

-- nothing is refused for no cause but want of memory
for_nothing : (e : EditRefusal) (cause : Option EditRefusal) → Refuses e None → Refuses e cause
for_nothing Memory cause h = tt
for_nothing e cause h = absurd (none-some e h)

-- no element has the name
pub missing : (d : DeckValue) (name : List ℕ) (farads : ℤ) (e : EditRefusal)
    → Refuses e (when (is_none (named name d.elements)) (NoSuchName name)) → Refuses e (edit_cause d (SetC name farads))
unfolding edit_cause place_cause
missing d name farads e h = refuses_first e _ _ (by (named name d.elements) h)
  where
    by : (o : Option Element) → Refuses e (when (is_none o) (NoSuchName name))
        → Refuses e (found_cause d name (with_farads farads) o)
    by None h = h
    by (Some x) h = for_nothing e (found_cause d name (with_farads farads) (Some x)) h

-- ---- what the table finds

any_filter : (p : List ℕ → Bool) (ns : List (List ℕ)) (m : List ℕ)
    → list_any (bytes_eq m) (filter p ns) ≡ (list_any (bytes_eq m) ns && p m)
any_filter p [] m = refl
any_filter p (n ∷ ns) m = by (bytes_eq m n) refl (p n) refl (any_filter p ns m)
  where
    by : (b : Bool) → bytes_eq m n ≡ b → (c : Bool) → p n ≡ c
        → list_any (bytes_eq m) (filter p ns) ≡ (list_any (bytes_eq m) ns && p m)
        → list_any (bytes_eq m) (cond c (n ∷ filter p ns) (filter p ns)) ≡ ((b || list_any (bytes_eq m) ns) && p m)
    by true is true keep rest = (λ i. is i || list_any (bytes_eq m) (filter p ns))
        ∙ sym (ap p (same_name m n is) ∙ keep)
    by true is false keep rest =
        let no : p m ≡ false = ap p (same_name m n is) ∙ keep in
        rest ∙ (ap (λ c. list_any (bytes_eq m) ns && c) no ∙ none_of (list_any (bytes_eq m) ns)) ∙ sym no
    by false is true keep rest = (λ i. is i || list_any (bytes_eq m) (filter p ns)) ∙ rest
    by false is false keep rest = rest

-- a name is free where it is a node, and no source of it is known
pub free_known : (d : DeckValue) (n : List ℕ)
    → is_free d n ≡ (list_any (bytes_eq n) (nodes d) && is_none (source_of n d.elements))
unfolding is_free free_nodes
free_known d n = any_filter (λ m. is_none (driver d m)) (nodes d) n
    ∙ (λ i. list_any (bytes_eq n) (nodes d) && sym (driver_known d n) i)

-- no node of that name
pub not_free : (d : DeckValue) (n : List ℕ) → list_any (bytes_eq n) (nodes d) ≡ false → free_farads d n ≡ None
not_free d n none = ap (λ b. when b (total_farads d n)) (free_known d n ∙ ap (λ b. b && is_none (source_of n d.elements)) none)

-- a node of that name, by what is known of it
pub free_at : (d : DeckValue) (keys : List (List ℕ)) (row : List NodeFacts) (n : List ℕ) (place : ℕ) (x : NodeFacts)
    → IsTable d keys row → Some place ≡ position (bytes_eq n) keys
    → list_any (bytes_eq n) keys ≡ true
    → free_farads d n ≡ when (is_none (get_or row place x).source) (get_or row place x).farads
unfolding total_farads farads_of
free_at d keys row n place x table at some =
    let some_node = ap (list_any (bytes_eq n)) (sym table.names) ∙ some in
    let is : get_or row place x ≡ known d.elements n =
    ap (λ l. get_or l place x) (table.facts ∙ ap (map (known d.elements)) (sym table.names))
    ∙ read_named (known d.elements) keys n place x (named_at n keys place (sym at)) in
    ap (λ b. when b (total_farads d n)) (free_known d n ∙ ap (λ b. b && is_none (source_of n d.elements)) some_node)
    ∙ (λ i. when (is_none (sym is i).source) (sym is i).farads)
