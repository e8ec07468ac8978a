-- The devices at each node, as they are noted one after another.
use Rattle.std.proofs.Common.{◌≡◌, ℕ, zero, suc, ◌+◌, ◌<◌, ◌≤◌, Bool, true, false, ◌||◌, ◌&&◌, not, cond, List, [], ◌∷◌, ◌++◌, length, get_or, map, replicate, refl, sym, ap, ◌∙◌, arith, add-one}
use Rattle.std.specs.List.{All, filter, range_with_len}
use Rattle.std.specs.Str.{bytes_eq}
use Rattle.std.proofs.lemmas.Bool.{false≢true}
use Rattle.std.proofs.lemmas.List.{append-nil, ext_get_or, get_or-map, get_or-replicate, length-map, length-replicate}
use Rattle.std.proofs.lemmas.List.Elements.{filter-append}
use Rattle.semantics.specs.declared.element.Element.{Element}
use Rattle.semantics.specs.declared.element.Element.TheVariants.{Resistor, Capacitor, Source, Mos}
use Rattle.semantics.specs.Deck.{DeckValue}
use Rattle.semantics.specs.Neighbours.{is_device, is_end}
use Rattle.semantics.proofs.Nodes.{AreNodes}
use Rattle.circuit_model.specs.declared.ends.Ends.{Ends}
use Rattle.circuit_model.specs.Ends.{ends_in}
use Rattle.circuit_model.specs.Near.{AreNoted, HaveNoted, ends_at, no_ends, noted}
use Rattle.circuit_model.specs.Numbers.{devices, device_of, near_of, no_element}
use Rattle.circuit_model.proofs.Leads.{leads}

-- ---- numbers in turn

pub range_more : (a n : ℕ) → range_with_len a (suc n) ≡ range_with_len a n ++ (a + n) ∷ []
range_more a zero = ap (λ k. k ∷ []) (omega arith)
range_more a (suc n) =
    let next : a + 1 + n ≡ a + suc n = omega arith in
    ap (λ xs. a ∷ xs) (range_more (a + 1) n) ∙ ap (λ k. a ∷ (range_with_len (a + 1) n ++ k ∷ [])) next

-- two tests that agree on the first numbers pass the same of them
filter_same : (p q : ℕ → Bool) (a n : ℕ) → ((k : ℕ) → a ≤ k → k < a + n → p k ≡ q k) → filter p (range_with_len a n) ≡ filter q (range_with_len a n)
filter_same p q a zero same = refl
filter_same p q a (suc n) same =
    let rest = filter_same p q (a + 1) n (λ k low high. same k (omega arith) (omega arith)) in
    rw (same a (omega arith) (omega arith), rest) refl

-- ---- one device more

noted_none : (ends : List Ends) (i : ℕ) → noted ends 0 i ≡ []
unfolding noted
noted_none ends i = refl

pub noted_more : (ends : List Ends) (k i : ℕ) → noted ends (k + 1) i ≡ noted ends k i ++ (cond (ends_at i (get_or ends k no_ends)) (k ∷ []) [])
unfolding noted
noted_more ends k i =
    let last : 0 + k ≡ k = omega arith in
    ap (λ n. filter (λ j. ends_at i (get_or ends j no_ends)) (range_with_len 0 n)) (add-one k)
    ∙ ap (filter (λ j. ends_at i (get_or ends j no_ends))) (range_more 0 k ∙ ap (λ n. range_with_len 0 k ++ n ∷ []) last)
    ∙ filter-append (λ j. ends_at i (get_or ends j no_ends)) (range_with_len 0 k) (k ∷ [])

pub noted_start : (ends : List Ends) (count : ℕ) (near : List (List ℕ)) → near ≡ replicate count [] → HaveNoted ends 0 count near
noted_start ends count near is = record {
  size = rw is (length-replicate count []);
  each = λ i below. rw (is, get_or-replicate {A = List ℕ} count i [] [] below) (sym (noted_none ends i));
}

pub noted_next : (all : List Ends) (k count : ℕ) (ends : Ends) (old new : List (List ℕ)) → HaveNoted all k count old → ends ≡ get_or all k no_ends → AreNoted (λ i. ends_at i ends) k old new → HaveNoted all (k + 1) count new
noted_next all k count ends old new had is added = record {
  size = added.count ∙ had.size;
  each = λ i below. added.each i (omega (arith, had.size)) ∙ rw (had.each i below, noted_more all k i, is) refl;
}

-- three ends, each where none before it leads to the same node
module _ (i k : ℕ) where
  gained : Bool → List ℕ
  gained b = cond b (k ∷ []) []

  pub three : (a b c : Bool) (xs : List ℕ) → ((xs ++ cond a (k ∷ []) []) ++ cond (b && not a) (k ∷ []) []) ++ cond ((c && not a) && not b) (k ∷ []) [] ≡ xs ++ cond (a || (c || b)) (k ∷ []) []
  three true true true xs = append-nil _ ∙ append-nil _
  three true true false xs = append-nil _ ∙ append-nil _
  three true false true xs = append-nil _ ∙ append-nil _
  three true false false xs = append-nil _ ∙ append-nil _
  three false true true xs = append-nil _ ∙ ap (λ ys. ys ++ k ∷ []) (append-nil xs)
  three false true false xs = append-nil _ ∙ ap (λ ys. ys ++ k ∷ []) (append-nil xs)
  three false false true xs = ap (λ ys. ys ++ k ∷ []) (append-nil (xs ++ []) ∙ append-nil xs)
  three false false false xs = append-nil _ ∙ append-nil _

-- ---- at the end

or_none : (b : Bool) → (b || false) ≡ b
or_none true = refl
or_none false = refl

-- a device is at a node by number where it is by name
pub touches : (names : List (List ℕ)) (i : ℕ) (e : Element) → AreNodes names → i < length names → is_device e ≡ true → ends_at i (ends_in names e) ≡ is_end (get_or names i []) e
touches names i (Resistor name first second ohms) are below device = rw (leads names i first are below, leads names i second are below, or_none (bytes_eq (get_or names i []) second)) refl
touches names i (Mos name drain gate source bulk part len width) are below device =
    rw (leads names i drain are below, leads names i gate are below, leads names i source are below, or_none (bytes_eq (get_or names i []) source)) refl
touches names i (Capacitor name plus minus farads) are below device = absurd (false≢true device)
touches names i (Source name plus minus wave) are below device = absurd (false≢true device)

-- what a filter keeps passes
pub kept_passes : (es : List Element) (k : ℕ) → k < length (filter is_device es) → is_device (get_or (filter is_device es) k no_element) ≡ true
kept_passes [] k below = absurd (omega arith)
kept_passes (e ∷ es) k below = by (is_device e) refl k below (λ j. kept_passes es j)
  where
    by : (b : Bool) → is_device e ≡ b → (j : ℕ) → j < length (cond (is_device e) (e ∷ filter is_device es) (filter is_device es)) → ((i : ℕ) → i < length (filter is_device es) → is_device (get_or (filter is_device es) i no_element) ≡ true)
        → is_device (get_or (cond (is_device e) (e ∷ filter is_device es) (filter is_device es)) j no_element) ≡ true
    by true is zero inside rest = rw is is
    by true is (suc j) inside rest = rw is (rest j (let h = rw is at inside in omega (arith, h)))
    by false is j inside rest = rw is (rest j (rw is at inside))

-- each node has the devices at it
pub near_whole : (d : DeckValue) (names : List (List ℕ)) (ends : List Ends) (near : List (List ℕ)) (count : ℕ) → AreNodes names → ends ≡ map (ends_in names) (devices d) → count ≡ length (devices d)
    → HaveNoted ends count (length names) near → near ≡ map (near_of d) names
unfolding near_of noted devices
near_whole d names ends near count are same all had =
    ext_get_or [] near (map (near_of d) names) (had.size ∙ sym (length-map names (near_of d))) (λ i below.
    let inside : i < length names = omega (arith, had.size) in
    had.each i inside
    ∙ (rw all (filter_same (λ k. ends_at i (get_or ends k no_ends)) (λ k. is_end (get_or names i []) (device_of d k)) 0 (length (filter is_device d.elements)) (λ k low high.
    rw (same, get_or-map (ends_in names) (filter is_device d.elements) k no_element no_ends (omega (arith, high))) (touches names i (device_of d k) are inside (kept_passes d.elements k (omega (arith, high)))))))
    ∙ sym (get_or-map (near_of d) names i [] [] inside))

-- ---- what stands in these lists

below_all : (p : ℕ → Bool) (a n m : ℕ) → a + n ≤ m → All (λ k. k < m) (filter p (range_with_len a n))
below_all p a zero m h = λ k e below. absurd (omega (arith, below))
below_all p a (suc n) m h = by (p a) (below_all p (a + 1) n m (omega arith))
  where
    rest : List ℕ
    rest = filter p (range_with_len (a + 1) n)

    at : All (λ k. k < m) rest → (k e : ℕ) → k < length (a ∷ rest) → get_or (a ∷ rest) k e < m
    at all zero e below = omega arith
    at all (suc k) e below = all k e (omega arith)

    by : (b : Bool) → All (λ k. k < m) rest → All (λ k. k < m) (cond b (a ∷ rest) rest)
    by true all = at all
    by false all = all

-- the devices at a node are devices
pub near_inside : (d : DeckValue) (n : List ℕ) → All (λ k. k < length (devices d)) (near_of d n)
unfolding near_of
near_inside d n = below_all (λ k. is_end n (device_of d k)) 0 (length (devices d)) (length (devices d)) (omega arith)
