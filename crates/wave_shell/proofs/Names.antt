-- What the words name.
use Rattle.std.proofs.Common.{◌≡◌, ◌+◌, ◌<◌, ℕ, zero, suc, Bool, true, false, cond, List, [], ◌∷◌, ◌++◌, length, get_or, map, Option, Some, None, refl, sym, ◌∙◌, subst, arith}
use Rattle.std.specs.Prelude.{slice_get, Contains, IfSome}
use Rattle.std.specs.Option.{option_map}
use Rattle.std.proofs.lemmas.List.{length-map, length-append}
use Rattle.wave_shell.specs.Words.{FilesValue, is_dashes, is_name, names_in, files, files_of, deck_name, script_name}

-- ---- by how many names there are

one_of : (names : List (List ℕ)) (deck : List ℕ) → length names ≡ 1 → slice_get names 0 ≡ Some deck
    → files_of names ≡ Some (record { deck = deck; script = None })
one_of [] deck one at = absurd (omega arith)
one_of (d ∷ []) deck one at = let e : d ≡ deck = cc in rw e refl
one_of (d ∷ s ∷ ns) deck one at = absurd (omega arith)

two_of : (names : List (List ℕ)) (deck script : List ℕ) → length names ≡ 2 → slice_get names 0 ≡ Some deck
    → slice_get names 1 ≡ Some script
    → files_of names ≡ Some (record { deck = deck; script = Some script })
two_of [] deck script two at next = absurd (omega arith)
two_of (d ∷ []) deck script two at next = absurd (omega arith)
two_of (d ∷ s ∷ []) deck script two at next = let e : d ≡ deck = cc in let f : s ≡ script = cc in rw (e, f) refl
two_of (d ∷ s ∷ n ∷ ns) deck script two at next = absurd (omega arith)

none_of : (names : List (List ℕ)) → (length names ≡ 1 → ⊥) → (length names ≡ 2 → ⊥) → files_of names ≡ None
none_of [] one two = refl
none_of (d ∷ []) one two = absurd (one refl)
none_of (d ∷ s ∷ []) one two = absurd (two refl)
none_of (d ∷ s ∷ n ∷ ns) one two = refl

-- ---- the files of the words

named : (words names : List (List ℕ)) → names_in words ≡ Some names → files words ≡ files_of names
unfolding files
named words names is = rw (is, files) refl

pub unfit : (words : List (List ℕ)) → names_in words ≡ None → files words ≡ None
unfolding files
unfit words is = rw (is, files) refl

count : {X : Type 0} (f : X → List ℕ) (front back : List X)
    → length (map f (front ++ back)) ≡ length front + length back
count f front back = length-map (front ++ back) f ∙ length-append front back

pub one_named : {X : Type 0} (f : X → List ℕ) (words : List (List ℕ)) (front back : List X) (deck : List ℕ)
    → names_in words ≡ Some (map f (front ++ back))
    → length front + length back ≡ 1 → slice_get (map f (front ++ back)) 0 ≡ Some deck
    → files words ≡ Some (record { deck = deck; script = None })
one_named f words front back deck is one at = named words (map f (front ++ back)) is
    ∙ one_of (map f (front ++ back)) deck (count f front back ∙ one) at

pub two_named : {X : Type 0} (f : X → List ℕ) (words : List (List ℕ)) (front back : List X) (deck script : List ℕ)
    → names_in words ≡ Some (map f (front ++ back))
    → length front + length back ≡ 2 → slice_get (map f (front ++ back)) 0 ≡ Some deck
    → slice_get (map f (front ++ back)) 1 ≡ Some script
    → files words ≡ Some (record { deck = deck; script = Some script })
two_named f words front back deck script is two at next =
    named words (map f (front ++ back)) is ∙ two_of (map f (front ++ back)) deck script (count f front back ∙ two) at
    next

pub none_named : {X : Type 0} (f : X → List ℕ) (words : List (List ℕ)) (front back : List X)
    → names_in words ≡ Some (map f (front ++ back))
    → (length front + length back ≡ 1 → ⊥) → (length front + length back ≡ 2 → ⊥) → files words ≡ None
none_named f words front back is one two =
    named words (map f (front ++ back)) is
    ∙ none_of (map f (front ++ back)) (λ e. one (sym (count f front back) ∙ e))
    (λ e. two (sym (count f front back) ∙ e))

-- ---- the name at a place

at_place : {X : Type 0} (f : X → List ℕ) (xs : List X) (k : ℕ) (d : X) → k < length xs
    → slice_get (map f xs) k ≡ Some (f (get_or xs k d))
at_place f [] k d below = absurd (omega arith)
at_place f (x ∷ xs) zero d below = refl
at_place f (x ∷ xs) (suc k) d below = at_place f xs k d (omega arith)

pub in_back : {X : Type 0} (f : X → List ℕ) (front back : List X) (place k : ℕ) (d : X) → place ≡ length front + k
    → k < length back → slice_get (map f (front ++ back)) place ≡ Some (f (get_or back k d))
in_back f [] back place k d is below = let e : place ≡ k = omega arith in rw e (at_place f back k d below)
in_back f (x ∷ xs) back zero k d is below = absurd (omega arith)
in_back f (x ∷ xs) back (suc place) k d is below = in_back f xs back place k d (omega arith) below

-- ---- a file that is named is one of the words

later : (w : List ℕ) (ws : List (List ℕ)) (x : List ℕ) → Contains ws x → Contains (w ∷ ws) x
later w ws x h = (suc h.0, omega (arith, h.1), h.2)

grown : (w : List ℕ) (ws ns names : List (List ℕ)) (x : List ℕ) → w ∷ ns ≡ names
    → ((y : List ℕ) → Contains ns y → Contains ws y) → Contains names x → Contains (w ∷ ws) x
grown w ws ns names x is among h = by (subst (λ (l : List (List ℕ)). Contains l x) (sym is) h)
  where
    by : Contains (w ∷ ns) x → Contains (w ∷ ws) x
    by (zero, below, at) = (zero, omega arith, at)
    by (suc k, below, at) = later w ws x (among x (k, omega arith, at))

names_among : (words names : List (List ℕ)) (x : List ℕ) → names_in words ≡ Some names → Contains names x
    → Contains words x
unfolding names_in
names_among [] names x is h = let e : [] ≡ names = cc in subst (λ (l : List (List ℕ)). Contains l x) (sym e) h
names_among (w ∷ ws) names x is h = by (λ ns y known. names_among ws ns y known) (is_dashes w) (is_name w)
    (names_in ws) refl is
  where
    by : ((ns : List (List ℕ)) (y : List ℕ) → names_in ws ≡ Some ns → Contains ns y → Contains ws y)
        → (d n : Bool) (o : Option (List (List ℕ))) → names_in ws ≡ o
        → cond {A = Option (List (List ℕ))} d (Some ws)
        (cond {A = Option (List (List ℕ))} n (option_map (λ l. w ∷ l) o) None) ≡ Some names → Contains (w ∷ ws) x
    by rest true n o known e = let same : ws ≡ names =
        cc in later w ws x (subst (λ (l : List (List ℕ)). Contains l x) (sym same) h)
    by rest false true None known e = absurd (cc)
    by rest false true (Some ns) known e = let same : w ∷ ns ≡ names =
        cc in grown w ws ns names x same (λ y. rest ns y known) h
    by rest false false o known e = absurd (cc)

-- the names of the files are names among the words
deck_of : (words names : List (List ℕ)) → ((x : List ℕ) → Contains names x → Contains words x)
    → IfSome (option_map (λ f. f.deck) (files_of names)) (λ name. Contains words name)
deck_of words [] among = tt
deck_of words (d ∷ []) among = among d (0, omega arith, refl)
deck_of words (d ∷ s ∷ []) among = among d (0, omega arith, refl)
deck_of words (d ∷ s ∷ n ∷ ns) among = tt

script_of : (words names : List (List ℕ)) → ((x : List ℕ) → Contains names x → Contains words x)
    → IfSome (elim (files_of names) as (λ _. Option (List ℕ)) [ None ↦ None | Some f ↦ f.script ])
    (λ name. Contains words name)
script_of words [] among = tt
script_of words (d ∷ []) among = tt
script_of words (d ∷ s ∷ []) among = among s (1, omega arith, refl)
script_of words (d ∷ s ∷ n ∷ ns) among = tt

pub deck_among : (words : List (List ℕ)) → IfSome (deck_name words) (λ name. Contains words name)
unfolding files
deck_among words = by (names_in words) refl
  where
    by : (o : Option (List (List ℕ))) → names_in words ≡ o
        → IfSome (option_map (λ f. f.deck) (elim o as (λ _. Option FilesValue)
        [ None ↦ None | Some names ↦ files_of names ])) (λ name. Contains words name)
    by None is = tt
    by (Some names) is = deck_of words names (λ x. names_among words names x is)

pub script_among : (words : List (List ℕ)) → IfSome (script_name words) (λ name. Contains words name)
unfolding files
script_among words = by (names_in words) refl
  where
    by : (o : Option (List (List ℕ))) → names_in words ≡ o
        → IfSome (elim (elim o as (λ _. Option FilesValue) [ None ↦ None | Some names ↦ files_of names ]) as
        (λ _. Option (List ℕ)) [ None ↦ None | Some f ↦ f.script ]) (λ name. Contains words name)
    by None is = tt
    by (Some names) is = script_of words names (λ x. names_among words names x is)
