-- What a name is in a deck, by its place among the nodes.
use Rattle.std.proofs.Common.{◌≡◌, ℕ, ◌<◌, Bool, true, false, ◌&&◌, List, [], Option, Some, None, length, refl, sym, ◌∙◌, ap, subst}
use Rattle.std.specs.Prelude.{if◌then◌else◌, is_none, is_some, option_and_then, slice_get, ℤ, IfSome}
use Rattle.std.specs.List.{list_any}
use Rattle.std.specs.Option.{option_map, option_map_or}
use Rattle.std.specs.Str.{bytes_eq}
use Rattle.std.proofs.lemmas.Option.{get_or_from_slice_get, slice_get-get_or, slice_get_within}
use Rattle.semantics.specs.Neighbours.{is_free}
use Rattle.semantics.proofs.Free.{free_held, free_is, node_is}
use Rattle.semantics.proofs.Limits.{Held, Limits}
use Rattle.semantics.specs.Deck.{DeckValue, driver, nodes}
use Rattle.circuit_model.specs.declared.node_kind.NodeKind.{NodeKind}
use Rattle.circuit_model.specs.declared.node_kind.NodeKind.TheVariants.{Absent, Driven, Free}
use Rattle.circuit_model.specs.Ends.{number}
use Rattle.circuit_model.specs.Numbers.{CircuitValue, kind_at, kind_of, name_at, place_at}
use Rattle.circuit_model.proofs.Leads.{position_none}
use Rattle.circuit_model.proofs.Named.{numbered_any, numbered_at}

-- a node is driven or free
abbrev pub real_kind : DeckValue → List ℕ → NodeKind
real_kind d n = if is_some (driver d n) then Driven else Free

pub kind_absent : (d : DeckValue) (n : List ℕ) → number (nodes d) n ≡ None → kind_of d n ≡ Absent
unfolding kind_of
kind_absent d n none = rw (position_none (bytes_eq n) (nodes d) none) refl

pub kind_real : (d : DeckValue) (n : List ℕ) (p : ℕ) → number (nodes d) n ≡ Some p → kind_of d n ≡ real_kind d n
unfolding kind_of
kind_real d n p there = rw (numbered_any (nodes d) n p there) refl

pub kind_seen : (d : DeckValue) (n : List ℕ) → list_any (bytes_eq n) (nodes d) ≡ true → kind_of d n ≡ real_kind d n
unfolding kind_of
kind_seen d n seen = rw seen refl

pub driven_real : (d : DeckValue) (n : List ℕ) → real_kind d n ≡ Driven → is_some (driver d n) ≡ true
driven_real d n is = by (is_some (driver d n)) is
  where
    by : (b : Bool) → (if b then Driven else Free) ≡ Driven → b ≡ true
    by true h = refl
    by false h = absurd (cc)

-- ---- by number

pub kind_none : (c : CircuitValue) (node : ℕ) → place_at c node ≡ None → kind_at c node ≡ Absent
kind_none c node = by (slice_get c.names node)
  where
    by : (o : Option (List ℕ)) → option_and_then (number (nodes c.deck)) o ≡ None → option_map_or (kind_of c.deck) o Absent ≡ Absent
    by None h = refl
    by (Some n) h = kind_absent c.deck n h

-- a number that has a place has a name that is a node
pub record HasPlace (c : CircuitValue) (node place : ℕ) : Type 0 where
  pub kind_is : kind_at c node ≡ real_kind c.deck (name_at c node)
  pub name_is : slice_get (nodes c.deck) place ≡ Some (name_at c node)

pub kind_some : (c : CircuitValue) (node place : ℕ) → place_at c node ≡ Some place → HasPlace c node place
kind_some c node place there = by (slice_get c.names node) refl there
  where
    by : (o : Option (List ℕ)) → slice_get c.names node ≡ o → option_and_then (number (nodes c.deck)) o ≡ Some place → HasPlace c node place
    by None is h = absurd (cc)
    by (Some n) is h =
        let name : name_at c node ≡ n = get_or_from_slice_get c.names node n [] is in
        record {
          kind_is = ap (λ o. option_map_or (kind_of c.deck) o Absent) is ∙ kind_real c.deck n place h ∙ ap (real_kind c.deck) (sym name);
          name_is = numbered_at (nodes c.deck) n place h ∙ ap Some (sym name);
        }

-- a number that is not absent has a place
pub some_place : (c : CircuitValue) (node : ℕ) → (kind_at c node ≡ Absent → ⊥) → is_some (place_at c node) ≡ true
some_place c node here = by (place_at c node) refl
  where
    by : (o : Option ℕ) → place_at c node ≡ o → is_some o ≡ true
    by None is = absurd (here (kind_none c node is))
    by (Some p) is = refl

-- the kind of a number is that of its name
pub kind_here : (c : CircuitValue) (node : ℕ) → node < length c.names → kind_at c node ≡ kind_of c.deck (name_at c node)
kind_here c node inside = ap (λ o. option_map_or (kind_of c.deck) o Absent) (slice_get-get_or c.names node [] inside)

-- a number that is not absent is that of a name
pub kind_inside : (c : CircuitValue) (node : ℕ) → (kind_at c node ≡ Absent → ⊥) → node < length c.names
kind_inside c node here = by (slice_get c.names node) refl
  where
    by : (o : Option (List ℕ)) → slice_get c.names node ≡ o → node < length c.names
    by None is = absurd (here (ap (λ x. option_map_or (kind_of c.deck) x Absent) is))
    by (Some n) is = slice_get_within c.names node n is

-- ---- free nodes

free_parts : (d : DeckValue) (n : List ℕ) → is_free d n ≡ (list_any (bytes_eq n) (nodes d) && is_none (driver d n))
free_parts d n = free_is d n ∙ ap (λ b. b && is_none (driver d n)) (sym (node_is d n))

-- a name is free by its kind where it is a free node
pub free_kind : (d : DeckValue) (n : List ℕ) → is_free d n ≡ true → kind_of d n ≡ Free
unfolding kind_of
free_kind d n free = by (list_any (bytes_eq n) (nodes d)) (driver d n) (sym (free_parts d n) ∙ free)
  where
    by : (a : Bool) (o : Option (List (ℕ × ℤ) × Bool)) → (a && is_none o) ≡ true → (if a then (if is_some o then Driven else Free) else Absent) ≡ Free
    by true None h = refl
    by true (Some s) h = absurd (cc)
    by false o h = absurd (cc)

pub kind_free : (d : DeckValue) (n : List ℕ) → kind_of d n ≡ Free → is_free d n ≡ true
unfolding kind_of
kind_free d n is = free_parts d n ∙ by (list_any (bytes_eq n) (nodes d)) (driver d n) is
  where
    by : (a : Bool) (o : Option (List (ℕ × ℤ) × Bool)) → (if a then (if is_some o then Driven else Free) else Absent) ≡ Free → (a && is_none o) ≡ true
    by true None h = refl
    by true (Some s) h = absurd (cc)
    by false o h = absurd (cc)

-- ---- what is asked of the deck

some_map : {A B : Type 0} (f : A → B) (o : Option A) → is_some (option_map f o) ≡ is_some o
some_map f None = refl
some_map f (Some x) = refl

-- what drives the node at a place, as a deck answers it
pub driver_is : {A : Type 0} (d : DeckValue) (n : List ℕ) (place : ℕ) (f : A → List (ℕ × ℤ) × Bool) (o : Option A) → slice_get (nodes d) place ≡ Some n
    → IfSome (slice_get (nodes d) place) (λ m. driver d m ≡ option_map f o) → driver d n ≡ option_map f o
driver_is d n place f o at is = subst (λ x. IfSome x (λ m. driver d m ≡ option_map f o)) at is

pub kind_from : {A : Type 0} (d : DeckValue) (n : List ℕ) (f : A → List (ℕ × ℤ) × Bool) (o : Option A) (b : Bool) → driver d n ≡ option_map f o → b ≡ is_some o → real_kind d n ≡ (if b then Driven else Free)
kind_from d n f o b is some = (λ i. if is_some (is i) then Driven else Free) ∙ (λ i. if (some_map f o ∙ sym some) i then Driven else Free)

pub some_from : {A : Type 0} (f : A → List (ℕ × ℤ) × Bool) (o : Option A) (x : Option (List (ℕ × ℤ) × Bool)) → x ≡ option_map f o → is_some x ≡ true → is_some o ≡ true
some_from f o x is some = sym (some_map f o) ∙ ap is_some (sym is) ∙ some

pub driven_some : (c : CircuitValue) (node : ℕ) → kind_at c node ≡ Driven → is_some (driver c.deck (name_at c node)) ≡ true
driven_some c node driven = by (place_at c node) refl
  where
    by : (o : Option ℕ) → place_at c node ≡ o → is_some (driver c.deck (name_at c node)) ≡ true
    by None is = let clash : Absent ≡ Driven = sym (kind_none c node is) ∙ driven in absurd (cc)
    by (Some p) is = driven_real c.deck (name_at c node) (sym (kind_some c node p is).kind_is ∙ driven)

-- a free node has what a valid deck gives it
pub held_here : (c : CircuitValue) (node : ℕ) → Limits c.deck → kind_at c node ≡ Free → Held c.deck (name_at c node)
held_here c node l free =
    let inside : node < length c.names = kind_inside c node (λ absent. let clash : Free ≡ Absent = sym free ∙ absent in absurd (cc)) in
    free_held c.deck l (name_at c node) (kind_free c.deck (name_at c node) (sym (kind_here c node inside) ∙ free))

-- what a deck answers at a place is that of its name
pub at_name : (d : DeckValue) (n : List ℕ) (place : ℕ) (P : List ℕ → Type 0) → slice_get (nodes d) place ≡ Some n → IfSome (slice_get (nodes d) place) P → P n
at_name d n place P at is = subst (λ x. IfSome x P) at is
