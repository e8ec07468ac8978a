-- Values have no limit to tell exactly where each is in its limit.
use Rattle.std.proofs.Common.{◌≡◌, ◌∙◌, ℕ, ◌+◌, ◌*◌, ◌==◌, Bool, true, false, not, ◌&&◌, List, [], ◌∷◌, length, Option, None, Some, ℤ, nat_le, refl, sym, ap}
use Rattle.std.specs.List.{list_all}
use Rattle.std.specs.Option.{option_or}
use Rattle.semantics.specs.declared.element.Element.{Element}
use Rattle.semantics.specs.declared.element.Element.TheVariants.{Resistor, Capacitor, Source, Mos}
use Rattle.semantics.specs.Part as part
use Rattle.semantics.specs.Points.{rising_times}
use Rattle.semantics.specs.Deck.{first_some}
use Rattle.semantics.specs.Valid.{small_volts, small_vto, some_gain, some_ohms, some_farads, some_metres, short_time, in_limits, is_grid, is_part, rising}
use Rattle.deck_cards.specs.declared.which.Which.{Which}
use Rattle.deck_cards.specs.declared.which.Which.TheVariants.{Volts, Seconds, Gain, Amps}
use Rattle.deck_cards.specs.Causes.{limit, outside, limited, point_limit, part_limit, element_limit}
use Rattle.deck_cards.proofs.Firsts.{first_some-cons, none-or}
use Rattle.deck_cards.proofs.Named.{and_both}

pub limit_none : (b : Bool) (w : Which) (n : List ℕ) → b ≡ true → limit b w n ≡ None
limit_none b w n h = ap (λ c. limit c w n) h

pub none_limit : (b : Bool) (w : Which) (n : List ℕ) → limit b w n ≡ None → b ≡ true
none_limit true w n h = refl
none_limit false w n h = absurd (cc)

-- where each item passes, none has a cause
pub none_first : {A B : Type 0} (p : A → Bool) (f : A → Option B) → ((x : A) → p x ≡ true → f x ≡ None) → (xs : List A) → list_all p xs ≡ true → first_some f xs ≡ None
none_first p f each [] all = refl
none_first p f each (x ∷ xs) all =
    let h = and_both (p x) (list_all p xs) all in
    first_some-cons f x xs ∙ ap (λ o. both o (first_some f xs)) (each x h.0) ∙ none_first p f each xs h.1
  where
    both : {B : Type 0} → Option B → Option B → Option B
    both None b = b
    both (Some y) b = Some y

-- and where none has, each passes
pub all_none : {A B : Type 0} (p : A → Bool) (f : A → Option B) → ((x : A) → f x ≡ None → p x ≡ true) → (xs : List A) → first_some f xs ≡ None → list_all p xs ≡ true
all_none p f each [] none = refl
all_none p f each (x ∷ xs) none =
    let h = none-or (f x) (first_some f xs) (sym (first_some-cons f x xs) ∙ none) in
    (λ i. each x h.0 i && all_none p f each xs h.1 i)

-- ---- one value

within_none : (b : Bool) (w : Which) → b ≡ true → outside b w ≡ None
within_none b w h = ap (λ c. outside c w) h

points_none : (points : List (ℕ × ℤ)) → list_all (λ p. short_time p.0 && small_volts p.1) points ≡ true → first_some point_limit points ≡ None
points_none points all = none_first (λ p. short_time p.0 && small_volts p.1) point_limit one points all
  where
    one : (p : ℕ × ℤ) → (short_time p.0 && small_volts p.1) ≡ true → point_limit p ≡ None
    one p h = let b = and_both (short_time p.0) (small_volts p.1) h in λ i. point_by (b.0 i) (b.1 i)
      where
        point_by : Bool → Bool → Option Which
        point_by s v = option_or (outside s Seconds) (option_or (outside v Volts) None)

pub element_none : (e : Element) → in_limits e ≡ true → element_limit e ≡ None
unfolding element_limit
element_none (Resistor name first second ohms) h = within_none (some_ohms ohms) _ h
element_none (Capacitor name plus minus farads) h = within_none (some_farads farads) _ h
element_none (Source name plus minus wave) h =
    let a = and_both (not (length wave == 0)) _ h in
    points_none wave (and_both (rising_times wave) _ a.1).1
element_none (Mos name drain gate source bulk part len width) h = within_none (some_metres len && some_metres width) _ h

-- the thresholds of a grid are small
small_grid : (g : List ℤ) → is_grid g ≡ true → list_all small_volts g ≡ true
small_grid g h = (and_both (list_all small_volts g) (rising g) (and_both (nat_le (length g) 256) _ h).1).0

pub part_none : (p : part.Part) → is_part p ≡ true → part_limit p ≡ None
unfolding part_limit
part_none (part.Level channel vto kp) h =
    let b = and_both (small_vto vto) (some_gain kp) h in
    λ i. option_or (outside (b.0 i) Volts) (option_or (outside (b.1 i) Gain) None)
part_none (part.Listed gate drain amps) h =
    let a = and_both (is_grid gate) _ h in
    let b = and_both (is_grid drain) _ a.1 in
    let c = and_both (length amps == (length gate + 1) * (length drain + 1)) _ b.1 in
    λ i. option_or (outside (small_grid gate a.0 i && small_grid drain b.0 i) Volts) (option_or (outside (c.1 i) Amps) None)

-- no value of a name is outside its limit
pub limited_none : (n : List ℕ) (o : Option Which) → o ≡ None → limited n o ≡ None
limited_none n o h = ap (limited n) h
