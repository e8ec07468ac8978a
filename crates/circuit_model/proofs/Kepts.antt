-- What is kept of devices beside a deck, and the devices that the deck makes of it.
use Rattle.std.proofs.Common.{◌≡◌, ℕ, suc, zero, ◌<◌, true, List, [], ◌∷◌, length, get_or, map, Option, Some, None, refl, sym, ap, ◌∙◌, arith}
use Rattle.std.specs.Prelude.{is_some}
use Rattle.std.specs.List.{list_all}
use Rattle.std.specs.Option.{option_map}
use Rattle.std.proofs.lemmas.Bool.{and_parts, and_from}
use Rattle.std.proofs.lemmas.List.{get_or-map, length-map}
use Rattle.semantics.specs.Deck.{DeckValue}
use Rattle.circuit_model.specs.declared.kept_device.KeptDevice.{KeptDevice}
use Rattle.circuit_model.specs.Kept.{device_by_law, device_in, law_in, AreKept}
use Rattle.circuit_model.specs.Wiring.{DeviceLaw, DeviceValue, are_inside, is_lawful, is_wired}

some_is : {A : Type 0} (x y : A) → Some x ≡ Some y → x ≡ y
some_is x y h = cc

-- ---- lists of which each item makes one

module _ {A B : Type 0} (f : A → Option B) where
  all_made : (ks : List A) (vs : List B) → map f ks ≡ map Some vs → list_all (λ k. is_some (f k)) ks ≡ true
  all_made [] vs h = refl
  all_made (k ∷ ks) [] h = absurd (cc)
  all_made (k ∷ ks) (v ∷ vs) h =
      let one : f k ≡ Some v = cc in
      let rest : map f ks ≡ map Some vs = cc in
      and_from _ _ (rw one refl) (all_made ks vs rest)

  made_total : (ks : List A) (vs : List B) → map f ks ≡ map Some vs → length ks ≡ length vs
  made_total ks vs h = sym (length-map ks f) ∙ ap (λ (xs : List (Option B)). length xs) h ∙ length-map vs Some

  made_at : (ks : List A) (vs : List B) (k : ℕ) (x : A) (v : B) → map f ks ≡ map Some vs → k < length ks → f (get_or ks k x) ≡ Some (get_or vs k v)
  made_at ks vs k x v h below =
      let within : k < length vs = omega (arith, made_total ks vs h, below) in
      sym (get_or-map f ks k x None below) ∙ ap (λ xs. get_or xs k None) h ∙ get_or-map Some vs k v None within

  made_same : {E : Type 0} (p : A → E) (q : B → E) → ((a : A) (b : B) → f a ≡ Some b → p a ≡ q b) → (ks : List A) (vs : List B) → map f ks ≡ map Some vs → map p ks ≡ map q vs
  made_same p q same [] [] h = refl
  made_same p q same [] (v ∷ vs) h = absurd (cc)
  made_same p q same (k ∷ ks) [] h = absurd (cc)
  made_same p q same (k ∷ ks) (v ∷ vs) h =
      let one : f k ≡ Some v = cc in
      let rest : map f ks ≡ map Some vs = cc in
      rw (same k v one, made_same p q same ks vs rest) refl

pub somes : {A : Type 0} (xs ys : List A) → map Some xs ≡ map Some ys → xs ≡ ys
somes [] [] h = refl
somes [] (y ∷ ys) h = absurd (cc)
somes (x ∷ xs) [] h = absurd (cc)
somes (x ∷ xs) (y ∷ ys) h =
    let one : x ≡ y = cc in
    let rest : map Some xs ≡ map Some ys = cc in
    rw (one, somes xs ys rest) refl

-- ---- the devices of a deck

pub same_ends : (d : DeckValue) (k : KeptDevice) (v : DeviceValue) → device_in d k ≡ Some v → k.ends ≡ v.ends
same_ends d k v h = by (law_in d k.law) h
  where
    by : (o : Option DeviceLaw) → option_map (device_by_law k.place k.ends) o ≡ Some v → k.ends ≡ v.ends
    by None none = absurd (cc)
    by (Some law) is =
        let one : device_by_law k.place k.ends law ≡ v = cc in ap (λ (x : DeviceValue). x.ends) one

pub are_kept : (d : DeckValue) (ks : List KeptDevice) (vs : List DeviceValue) → map (device_in d) ks ≡ map Some vs → AreKept d ks
are_kept d ks vs h = all_made (device_in d) ks vs h

-- and each of them, by its place
pub kept_there : (d : DeckValue) (ks : List KeptDevice) (i : ℕ) (k : KeptDevice) → AreKept d ks → i < length ks → k ≡ get_or ks i k → is_some (device_in d k) ≡ true
kept_there d [] i k all below is = absurd (omega arith)
kept_there d (x ∷ xs) zero k all below is = rw is (and_parts (is_some (device_in d x)) (list_all (λ y. is_some (device_in d y)) xs) all).0
kept_there d (x ∷ xs) (suc i) k all below is = kept_there d xs i k (and_parts (is_some (device_in d x)) (list_all (λ y. is_some (device_in d y)) xs) all).1 (omega arith) is

pub kept_total : (d : DeckValue) (ks : List KeptDevice) (vs : List DeviceValue) → map (device_in d) ks ≡ map Some vs → length ks ≡ length vs
kept_total d ks vs h = made_total (device_in d) ks vs h

pub kept_at : (d : DeckValue) (ks : List KeptDevice) (vs : List DeviceValue) (k : ℕ) (x : KeptDevice) (v : DeviceValue) → map (device_in d) ks ≡ map Some vs → k < length ks → x ≡ get_or ks k x
    → device_in d x ≡ Some (get_or vs k v)
kept_at d ks vs k x v h below is = ap (device_in d) is ∙ made_at (device_in d) ks vs k x v h below

pub kept_device : (d : DeckValue) (ks : List KeptDevice) (vs : List DeviceValue) (k : ℕ) (x : KeptDevice) (v : DeviceValue) → map (device_in d) ks ≡ map Some vs → k < length ks → x ≡ get_or ks k x
    → device_in d x ≡ Some v → v ≡ get_or vs k v
kept_device d ks vs k x v h below is made = some_is v (get_or vs k v) (sym made ∙ kept_at d ks vs k x v h below is)

pub kept_ends : (d : DeckValue) (ks : List KeptDevice) (vs : List DeviceValue) → map (device_in d) ks ≡ map Some vs → map (λ k. k.ends) ks ≡ map (λ v. v.ends) vs
kept_ends d ks vs h = made_same (device_in d) (λ (k : KeptDevice). k.ends) (λ (v : DeviceValue). v.ends) (same_ends d) ks vs h

-- ends of wired devices lead inside
pub kept_inside : (d : DeckValue) (count : ℕ) (ks : List KeptDevice) (vs : List DeviceValue) → map (device_in d) ks ≡ map Some vs → list_all (is_wired count) vs ≡ true → list_all (λ k. are_inside count k.ends) ks ≡ true
kept_inside d count [] vs h wired = refl
kept_inside d count (k ∷ ks) [] h wired = absurd (cc)
kept_inside d count (k ∷ ks) (v ∷ vs) h wired =
    let one : device_in d k ≡ Some v = cc in
    let rest : map (device_in d) ks ≡ map Some vs = cc in
    let parts = and_parts (is_wired count v) (list_all (is_wired count) vs) wired in
    let inside : are_inside count v.ends ≡ true = (and_parts (are_inside count v.ends) (is_lawful v.law) parts.0).0 in
    and_from _ _ (ap (are_inside count) (same_ends d k v one) ∙ inside) (kept_inside d count ks vs rest parts.1)
