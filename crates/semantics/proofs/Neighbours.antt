-- The voltages of a name hang on what is handed in for free nodes, and the current into a node on what is handed in for its free neighbours.
use Rattle.std.proofs.Common.{◌≡◌, ℕ, Bool, true, false, if◌then◌else◌, List, [], ◌∷◌, Option, Some, None, refl, ⊎_elim, inl, ℤ, pos, ◌&&◌}
use Rattle.std.specs.List.{list_any}
use Rattle.std.proofs.lemmas.Bool.{false≢true, and_parts, or_cases, or_left, or_right}
use Rattle.semantics.specs.declared.fraction.Fraction.{Fraction}
use Rattle.semantics.specs.declared.element.Element.{Element}
use Rattle.semantics.specs.Ground.{is_ground}
use Rattle.semantics.specs.Source.{pair_at, signed}
use Rattle.semantics.specs.Deck.{DeckValue, driver}
use Rattle.semantics.specs.Device.{cells}
use Rattle.semantics.specs.Run.{voltages, node_current}
use Rattle.semantics.specs.Neighbours.{is_free, is_device, is_end, joins, share}
use Rattle.semantics.proofs.Free.{free_from}
use Rattle.semantics.proofs.Levels.{Alike}
use Rattle.semantics.proofs.Flows.{cells_alike, itself, near_suffices}

-- ---- voltages of a name

abbrev pub driven_pair : List (ℕ × ℤ) × Bool → ℕ → Fraction
driven_pair s t = record { num = signed s.1 (pair_at s.0 t).num; den = (pair_at s.0 t).den }

-- where a name has one driver in both decks, only what is handed in for a free node counts
pub voltages_alike : (d e : DeckValue) (t : ℕ) (a b : List ℕ → Fraction) (m : List ℕ) → (is_ground m ≡ false → driver d m ≡ driver e m) → (is_ground m ≡ false → driver d m ≡ None → Alike (a m) (b m))
    → Alike (voltages d t a m) (voltages e t b m)
unfolding voltages
voltages_alike d e t a b m same alike = by (is_ground m) (driver d m) (driver e m) refl refl same
  where
    by : (g : Bool) (o p : Option (List (ℕ × ℤ) × Bool)) → is_ground m ≡ g → driver d m ≡ o → (is_ground m ≡ false → o ≡ p)
        → Alike (if g then record { num = pos 0; den = 1 } else elim o as (λ _. Fraction) [ None ↦ a m | Some s ↦ driven_pair s t ])
        (if g then record { num = pos 0; den = 1 } else elim p as (λ _. Fraction) [ None ↦ b m | Some s ↦ driven_pair s t ])
    by true o p g_is o_is e = inl refl
    by false None None g_is o_is e = alike g_is o_is
    by false None (Some r) g_is o_is e = let no : None ≡ Some r = e g_is in absurd (cc)
    by false (Some s) None g_is o_is e = let no : Some s ≡ None = e g_is in absurd (cc)
    by false (Some s) (Some r) g_is o_is e = let both : Some s ≡ Some r = e g_is in let one : s ≡ r = cc in inl (λ i. driven_pair (one i) t)

-- the same for one deck and equal pairs
pub voltages_same : (d : DeckValue) (t : ℕ) (a b : List ℕ → Fraction) (m : List ℕ) → (is_ground m ≡ false → driver d m ≡ None → a m ≡ b m) → voltages d t a m ≡ voltages d t b m
unfolding voltages
voltages_same d t a b m same = by (is_ground m) (driver d m) refl refl
  where
    by : (g : Bool) (o : Option (List (ℕ × ℤ) × Bool)) → is_ground m ≡ g → driver d m ≡ o
        → (if g then record { num = pos 0; den = 1 } else elim o as (λ _. Fraction) [ None ↦ a m | Some s ↦ driven_pair s t ])
        ≡ (if g then record { num = pos 0; den = 1 } else elim o as (λ _. Fraction) [ None ↦ b m | Some s ↦ driven_pair s t ])
    by true o g_is o_is = refl
    by false None g_is o_is = same g_is o_is
    by false (Some s) g_is o_is = refl

-- ---- neighbours

-- of two names that a device joins both are ends
joined_ends : (m n : List ℕ) (xs : List Element) → list_any (joins m n) xs ≡ true → (list_any (is_end m) xs ≡ true) × (list_any (is_end n) xs ≡ true)
joined_ends m n [] h = absurd (false≢true h)
joined_ends m n (x ∷ xs) h = ⊎_elim
    (λ (here : joins m n x ≡ true).
    let both = and_parts (is_end m x) (is_end n x) (and_parts (is_device x) (is_end m x && is_end n x) here).1 in
    (or_left (is_end m x) (list_any (is_end m) xs) both.0, or_left (is_end n x) (list_any (is_end n) xs) both.1))
    (λ (later : list_any (joins m n) xs ≡ true).
    let both = joined_ends m n xs later in
    (or_right (is_end m x) (list_any (is_end m) xs) both.0, or_right (is_end n x) (list_any (is_end n) xs) both.1))
    (or_cases (joins m n x) (list_any (joins m n) xs) h)

pub share_end : (d : DeckValue) (m n : List ℕ) → share d m n ≡ true → list_any (is_end m) d.elements ≡ true
unfolding share
share_end d m n h = (joined_ends m n d.elements h).0

-- what flows into a node hangs on what is handed in for its free neighbours
pub free_suffices : (d : DeckValue) (t : ℕ) (a b : List ℕ → Fraction) (n : List ℕ) → ((m : List ℕ) → is_free d m ≡ true → share d m n ≡ true → a m ≡ b m)
    → node_current d (voltages d t a) n ≡ node_current d (voltages d t b) n
free_suffices d t a b n same = near_suffices d (voltages d t a) (voltages d t b) n
    (λ m near. voltages_same d t a b m (λ real none. same m (free_from d m real (share_end d m n near) none) near))

-- the cells of an element hang on what is handed in for its free ends
pub same_cells : (d : DeckValue) (t : ℕ) (a b : List ℕ → Fraction) (x : Element) → ((m : List ℕ) → is_end m x ≡ true → is_ground m ≡ false → driver d m ≡ None → a m ≡ b m)
    → cells d (voltages d t a) x ≡ cells d (voltages d t b) x
same_cells d t a b x same = cells_alike d d (voltages d t a) (voltages d t b) x (itself d) (λ m end. inl (voltages_same d t a b m (λ real none. same m end real none)))
