-- Lists of devices by place, as they are kept in a vector of vectors, and their marks.
use Rattle.std.proofs.Common.{◌≡◌, ℕ, zero, suc, ◌-◌, ◌/◌, ◌%◌, ◌<◌, ◌≤◌, min, Bool, true, false, cond, not, List, [], ◌∷◌, ◌++◌, length, take, Option, Some, None, Result, Ok, Err, Bor, get_or, refl, sym, ap, subst, ◌∙◌, arith, inl, inr, ⊎_elim, Vec, Global}
use Rattle.std.proofs.Math.ListN.{set}
use Rattle.std.proofs.Math.Dec.{eqb}
use Rattle.std.proofs.lemmas.Bool.{eq-eqb, ne_eqb, cases_eq, cases_lt}
use Rattle.std.proofs.lemmas.List.{get_or-map, get_or-set_same, get_or-set_other, get_or_past, map-set, length-map, length-append}
use Rattle.std.specs.Int.{bit_at}
use Rattle.std.proofs.lemmas.Nat.Bits.{bit_at-zero}
use Rattle.std.specs.Result.{OnErr}
use Rattle.std.specs.Option.{option_copied}
use Rattle.std.specs.Slice.{IsGetResult}
use Rattle.std.specs.List.{slice_get, swap_remove}
use Rattle.std.proofs.lemmas.Option.{slice_get_past, slice_get_read}
use Rattle.std.proofs.lemmas.Grind.{get_or_default_zero}
use Rattle.event_order.specs.Marks.{mark_at, MarksOnly}
use Rattle.event_order.specs.Buckets.{bucket, lists_of, ChangesAt, SameBuckets, IsMarked}

-- one vector is put in the place of another
pub bucket_set : (xs : List (Vec ℕ Global)) (place : ℕ) (list : Vec ℕ Global) → place < length xs → (other : ℕ) →
    bucket (lists_of (set xs place list)) other ≡ cond (eqb other place) list.items (bucket (lists_of xs) other)
bucket_set xs place list h other =
    ap (λ ls. bucket ls other) (map-set (λ (v : Vec ℕ Global). v.items) xs place list)
    ∙ ⊎_elim
    (λ same. rw (eq-eqb other place same, same) (get_or-set_same (lists_of xs) place list.items [] (subst (λ n. place < n) (sym (length-map xs (λ (v : Vec ℕ Global). v.items))) h)))
    (λ apart. rw (ne_eqb other place apart) (get_or-set_other (lists_of xs) place other list.items [] apart))
    (cases_eq other place)

-- the vector that was read at a place
pub bucket_read : (xs : List (Vec ℕ Global)) (place : ℕ) (list : Vec ℕ Global) → place < length xs → list ≡ get_or xs place list → bucket (lists_of xs) place ≡ list.items
bucket_read xs place list h is = get_or-map (λ (v : Vec ℕ Global). v.items) xs place list [] h ∙ ap (λ (v : Vec ℕ Global). v.items) (sym is)

-- a list is changed, and its mark with it
pub marked_change : (marks new : List ℕ) (old lists : List (List ℕ)) (place mark : ℕ) (list : List ℕ) →
    IsMarked marks old → MarksOnly marks new place mark → ChangesAt old lists place list → mark ≡ min 1 (length list) → IsMarked new lists
marked_change marks new old lists place mark list all marked changed is other low =
    rw (marked other low, changed other) (by_place (eqb other place))
  where
    by_place : (b : Bool) → cond b mark (mark_at marks other) ≡ min 1 (length (cond b list (bucket old other)))
    by_place true = is
    by_place false = all other low

pub same_marked : (marks : List ℕ) (old lists : List (List ℕ)) → IsMarked marks old → SameBuckets old lists → IsMarked marks lists
same_marked marks old lists all same other low = all other low ∙ ap (λ list. min 1 (length list)) (sym (same other))

-- a place whose list is put back as it was
pub change_same : (old new : List (List ℕ)) (place : ℕ) (list : List ℕ) → ChangesAt old new place list → list ≡ bucket old place → SameBuckets old new
change_same old new place list changed is other = changed other ∙ ⊎_elim
    (λ same. rw (eq-eqb other place same, same) is)
    (λ apart. rw (ne_eqb other place apart) refl)
    (cases_eq other place)

-- the list at the changed place
pub change_at : (old new : List (List ℕ)) (place : ℕ) (list : List ℕ) → ChangesAt old new place list → bucket new place ≡ list
change_at old new place list changed = changed place ∙ ap (λ b. cond b list (bucket old place)) (eq-eqb place place refl)

pub marked_some : (b : Bool) (list : List ℕ) → b ≡ eqb (length list) 0 → cond (not b) 1 0 ≡ min 1 (length list)
marked_some b list is = ⊎_elim
    (λ none. rw (is, eq-eqb (length list) 0 none, none) refl)
    (λ some. rw (is, ne_eqb (length list) 0 some) (omega arith))
    (cases_eq (length list) 0)

-- one vector is put in the place of another, and its list changes
pub changes : (xs : List (Vec ℕ Global)) (old : List (List ℕ)) (place : ℕ) (list : Vec ℕ Global) (ys : List ℕ) →
    lists_of xs ≡ old → place < length xs → list.items ≡ ys → ChangesAt old (lists_of (set xs place list)) place ys
changes xs old place list ys view h is other = bucket_set xs place list h other ∙ (λ i. cond (eqb other place) (is i) (bucket (view i) other))

-- the list at a place, by the vector that was read there
pub list_at : (xs : List (Vec ℕ Global)) (old : List (List ℕ)) (place : ℕ) (list : Vec ℕ Global) →
    lists_of xs ≡ old → place < length xs → list ≡ get_or xs place list → bucket old place ≡ list.items
list_at xs old place list view h is = ap (λ ls. bucket ls place) (sym view) ∙ bucket_read xs place list h is

-- the same, where the vectors were lengthened first
later_list : (xs ys : List (Vec ℕ Global)) (old : List (List ℕ)) (place : ℕ) (list : Vec ℕ Global) →
    lists_of xs ≡ old → SameBuckets (lists_of xs) (lists_of ys) → place < length ys → list ≡ get_or ys place list → bucket old place ≡ list.items
later_list xs ys old place list view same h is = ap (λ ls. bucket ls place) (sym view) ∙ sym (same place) ∙ bucket_read ys place list h is

pub pushed : (xs ys : List (Vec ℕ Global)) (old : List (List ℕ)) (place device : ℕ) (before list : Vec ℕ Global) →
    lists_of xs ≡ old → SameBuckets (lists_of xs) (lists_of ys) → place < length ys → before ≡ get_or ys place before → list.items ≡ before.items ++ device ∷ [] →
    ChangesAt old (lists_of (set ys place list)) place (bucket old place ++ device ∷ [])
pushed xs ys old place device before list view same h is more other =
    bucket_set ys place list h other
    ∙ (λ i. cond (eqb other place) ((more ∙ ap (λ items. items ++ device ∷ []) (sym (later_list xs ys old place before view same h is))) i) ((same other ∙ ap (λ ls. bucket ls other) view) i))

pub unpushed : (xs ys : List (Vec ℕ Global)) (old : List (List ℕ)) (place : ℕ) (before list : Vec ℕ Global) →
    lists_of xs ≡ old → SameBuckets (lists_of xs) (lists_of ys) → place < length ys → before ≡ get_or ys place before → list.items ≡ before.items →
    SameBuckets old (lists_of (set ys place list))
unpushed xs ys old place before list view same h is kept =
    change_same old _ place list.items (λ other. bucket_set ys place list h other ∙ ap (cond (eqb other place) list.items) (same other ∙ ap (λ ls. bucket ls other) view))
    (kept ∙ sym (later_list xs ys old place before view same h is))

zeros : (i : ℕ) → (let marks : List ℕ = 0 ∷ 0 ∷ [] in get_or marks i 0) ≡ 0
zeros zero = refl
zeros (suc zero) = refl
zeros (suc (suc i)) = refl

-- no place is marked at first
pub none_marked_yet : (place : ℕ) → mark_at (0 ∷ 0 ∷ []) place ≡ 0
unfolding mark_at
none_marked_yet place = ap (λ n. bit_at n (place % 128)) (zeros (place / 128)) ∙ bit_at-zero (place % 128)

pub some_marked : (list : List ℕ) (device : ℕ) → (let one : ℕ = 1 in one) ≡ min 1 (length (list ++ device ∷ []))
some_marked list device = rw (length-append list (device ∷ [])) (omega arith)

-- what an error leaves, whatever the result
pub on_err : {T E P : Type 0} (r : Result T E) → P → OnErr r P
on_err (Ok x) p = tt
on_err (Err e) p = p

-- a place with a device is in range
pub in_lists : (xs : List (Vec ℕ Global)) (old : List (List ℕ)) (place index : ℕ) → lists_of xs ≡ old → index < length (bucket old place) → place < length xs
in_lists xs old place index view h = elim (cases_lt place (length xs)) [
  | inl l ↦ l
  | inr g ↦
      let past : bucket old place ≡ [] = ap (λ ls. bucket ls place) (sym view) ∙ get_or_past (lists_of xs) place [] (subst (λ n. n ≤ place) (sym (length-map xs (λ (v : Vec ℕ Global). v.items))) g) in
      absurd (let none : length (bucket old place) ≡ 0 = ap length past in omega arith)
]

-- the element at an index, copied
pub copied_get : (xs : List ℕ) (i : ℕ) (r : Option (Bor ℕ)) → IsGetResult xs i i r → option_copied r ≡ slice_get xs i
copied_get xs i None h = sym (slice_get_past xs i h.3)
copied_get xs i (Some x) h = sym (slice_get_read xs (length xs) i x.now refl h.3.0 h.1)

-- the default is not read
pub swap_removed : (xs : List ℕ) (i d : ℕ) → i < length xs → swap_remove xs i d ≡ swap_remove xs i 0
swap_removed xs i d h = ap (λ last. take (length xs - 1) (set xs i last)) (get_or_default_zero xs (length xs - 1) d (omega arith))

-- the list at a place without the device at an index
pub removed : (xs : List (Vec ℕ Global)) (old : List (List ℕ)) (place index : ℕ) (before list : Vec ℕ Global) (d : ℕ) →
    lists_of xs ≡ old → place < length xs → before ≡ get_or xs place before → index < length (bucket old place) → list.items ≡ swap_remove before.items index d →
    list.items ≡ swap_remove (bucket old place) index 0
removed xs old place index before list d view h is inside gone =
    let same : bucket old place ≡ before.items = list_at xs old place before view h is in
    gone ∙ ap (λ items. swap_remove items index d) (sym same) ∙ swap_removed (bucket old place) index d inside
