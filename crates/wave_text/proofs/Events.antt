-- The events of a run come in the order of their ticks, each at the place of a device.
use Rattle.std.proofs.Common.{◌≡◌, ℕ, zero, suc, ◌+◌, ◌-◌, ◌<◌, ◌≤◌, Bool, true, false, cond, List, [], ◌∷◌, ◌++◌, length, get_or, Option, Some, None, refl, sym, ap, ◌∙◌, subst, arith, append_assoc}
use Rattle.std.specs.Prelude.{slice_get}
use Rattle.std.specs.List.{All, enumerate_from, flat_map}
use Rattle.std.specs.List.Sorted.{IsNonDecreasingBy}
use Rattle.std.proofs.lemmas.List.Elements.{All-nil, All-cons, All-head, All-tail, All-push, All-append, All-filter, All-weaker}
use Rattle.std.proofs.lemmas.List.FromFn.{get_or-enumerate_from, length-enumerate_from}
use Rattle.std.proofs.lemmas.List.Sorted.{IsNonDecreasingBy-push, IsNonDecreasingBy-short}
use Rattle.std.proofs.lemmas.List.{append-nil}
use Rattle.std.proofs.lemmas.Option.{slice_get-get_or}
use Rattle.semantics.specs.declared.element.Element.{Element}
use Rattle.semantics.specs.declared.element.Element.TheVariants.{Resistor, Capacitor, Source, Mos}
use Rattle.semantics.specs.declared.event.Event.{Event}
use Rattle.semantics.specs.Deck.{DeckValue}
use Rattle.semantics.specs.Device.{cells}
use Rattle.semantics.specs.Event.{event_of, events, events_at, events_to, same_cells}
use Rattle.semantics.specs.Neighbours.{is_device}
use Rattle.semantics.specs.Run.{run}
use Rattle.wave_text.specs.Body.{IsEventOf}
use Rattle.wave_text.specs.Happened.{happened}
use Rattle.wave_text.specs.Range.{is_in}

all_flat : {X Y : Type 0} (P : Y → Type 0) (f : X → List Y) (xs : List X) → All (λ x. All P (f x)) xs → All P (flat_map f xs)
all_flat P f [] all = All-nil P
all_flat {X} P f (x ∷ xs) all =
    let Each : X → Type 0 = λ y. All P (f y) in
    All-append P (f x) (flat_map f xs) (All-head Each x xs all) (all_flat P f xs (All-tail Each x xs all))

-- an event of the deck at this tick
record IsAt (d : DeckValue) (tick : ℕ) (event : Event) : Type 0 where
  at : event.tick ≡ tick
  of : IsEventOf d event

module _ (d : DeckValue) (t : ℕ) where
  of_device : (place : ℕ) (x : Element) → slice_get d.elements place ≡ Some x → is_device x ≡ true → (old new : Option (ℕ × ℕ)) → All (IsAt d (suc t)) (event_of (suc t) place old new)
  of_device place x found device None new = All-nil (IsAt d (suc t))
  of_device place x found device (Some old) None = All-nil (IsAt d (suc t))
  of_device place x found device (Some old) (Some new) = by (same_cells old new)
    where
      event : Event
      event = record { tick = suc t; place = place; old = old; new = new }

      by : (b : Bool) → All (IsAt d (suc t)) (cond b [] (event ∷ []))
      by true = All-nil (IsAt d (suc t))
      by false =
          let of : IsEventOf d event = rw found device in
          All-cons (IsAt d (suc t)) event [] (record { at = refl; of = of }) (All-nil (IsAt d (suc t)))

  of_element : (place : ℕ) (x : Element) → slice_get d.elements place ≡ Some x → All (IsAt d (suc t)) (event_of (suc t) place (cells d (run d t) x) (cells d (run d (suc t)) x))
  unfolding cells
  of_element place (Resistor name first second ohms) found =
      let x : Element = Resistor name first second ohms in
      of_device place x found refl (cells d (run d t) x) (cells d (run d (suc t)) x)
  of_element place (Mos name drain gate source bulk part len width) found =
      let x : Element = Mos name drain gate source bulk part len width in
      of_device place x found refl (cells d (run d t) x) (cells d (run d (suc t)) x)
  of_element place (Capacitor name plus minus farads) found = All-nil (IsAt d (suc t))
  of_element place (Source name plus minus wave) found = All-nil (IsAt d (suc t))

  at_tick : All (IsAt d (suc t)) (events_at d t)
  unfolding events_at
  at_tick = all_flat (IsAt d (suc t)) (λ (at : ℕ × Element). event_of (suc t) at.0 (cells d (run d t) at.1) (cells d (run d (suc t)) at.1)) (enumerate_from 0 d.elements)
      (λ k e below.
      let inside : k < length d.elements = omega (arith, below, length-enumerate_from 0 d.elements) in
      let at : 0 + k ≡ k = omega arith in
      let found : slice_get d.elements (0 + k) ≡ Some (get_or d.elements k e.1) = ap (slice_get d.elements) at ∙ slice_get-get_or d.elements k e.1 inside in
      rw get_or-enumerate_from (of_element (0 + k) (get_or d.elements k e.1) found))

-- events up to a tick, in order
record InOrder (d : DeckValue) (t : ℕ) (list : List Event) : Type 0 where
  rising : IsNonDecreasingBy (λ (event : Event). event.tick) list
  by_now : All (λ (event : Event). event.tick ≤ t) list
  of_deck : All (IsEventOf d) list

later : (d : DeckValue) (t : ℕ) (list : List Event) → InOrder d t list → InOrder d (suc t) list
later d t list h = record {
  rising = h.rising;
  by_now = All-weaker (λ (event : Event). event.tick ≤ t) (λ (event : Event). event.tick ≤ suc t) (λ event low. omega (arith, low)) list h.by_now;
  of_deck = h.of_deck;
}

one_more : (d : DeckValue) (t : ℕ) (list : List Event) (event : Event) → InOrder d t list → IsAt d t event → InOrder d t (list ++ event ∷ [])
one_more d t list event h here = record {
  rising = IsNonDecreasingBy-push (λ (e : Event). e.tick) list event h.rising (λ e some. omega (arith, here.at, h.by_now (length list - 1) e (omega (arith, some))));
  by_now = All-push (λ (e : Event). e.tick ≤ t) list event h.by_now (omega (arith, here.at));
  of_deck = All-push (IsEventOf d) list event h.of_deck here.of;
}

some_more : (d : DeckValue) (t : ℕ) (list new : List Event) → InOrder d t list → All (IsAt d t) new → InOrder d t (list ++ new)
some_more d t list [] h all = subst (InOrder d t) (sym (append-nil list)) h
some_more d t list (event ∷ new) h all =
    let joined : (list ++ event ∷ []) ++ new ≡ list ++ (event ∷ new) = append_assoc list (event ∷ []) new in
    subst (InOrder d t) joined (some_more d t (list ++ event ∷ []) new (one_more d t list event h (All-head (IsAt d t) event new all)) (All-tail (IsAt d t) event new all))

none : (d : DeckValue) → InOrder d 0 []
none d = record {
  rising = IsNonDecreasingBy-short (λ (event : Event). event.tick) [] (omega arith);
  by_now = All-nil (λ (event : Event). event.tick ≤ 0);
  of_deck = All-nil (IsEventOf d);
}

up_to : (d : DeckValue) (t : ℕ) → InOrder d t (events_to d t)
unfolding events_to
up_to d zero = none d
up_to d (suc t) = some_more d (suc t) (events_to d t) (events_at d t) (later d t (events_to d t) (up_to d t)) (at_tick d t)

-- those of the run
pub events_rise : (d : DeckValue) → IsNonDecreasingBy (λ (event : Event). event.tick) (events d)
unfolding events
events_rise d = (up_to d d.stop).rising

events_of : (d : DeckValue) → All (IsEventOf d) (events d)
unfolding events
events_of d = (up_to d d.stop).of_deck

-- and those of a range
pub events_are : (d : DeckValue) (range : Option (ℕ × ℕ)) → All (IsEventOf d) (happened range (events d))
unfolding happened
events_are d None = events_of d
events_are d (Some range) = All-filter (λ (event : Event). is_in range event.tick) (IsEventOf d) (events d) (events_of d)
