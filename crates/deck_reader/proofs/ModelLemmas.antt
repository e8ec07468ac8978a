-- The settings of a model, as they are kept while they are read.
use Rattle.std.proofs.Common.{◌≡◌, ℤ, pos, Bool, true, false, if◌then◌else◌, List, [], ◌∷◌, ◌++◌, fold, Option, Some, None, Result, Ok, Err, ◌⊎◌, inl, inr, refl, sym, ◌∙◌, ap}
use Rattle.std.specs.List.{list_any}
use Rattle.std.specs.Option.{option_or}
use Rattle.std.specs.Ordering.{int_eq}
use Rattle.semantics.specs.declared.channel.Channel.{Channel}
use Rattle.semantics.specs.Part as part
use Rattle.semantics.specs.Valid.{small_vto, some_gain}
use Rattle.deck_cards.specs.declared.which.Which.{Which}
use Rattle.deck_cards.specs.declared.which.Which.TheVariants.{Volts, Gain}
use Rattle.deck_cards.specs.Causes.{outside, part_limit}
use Rattle.deck_cards.proofs.Firsts.{or_none}
use Rattle.deck_reader.specs.declared.why.DeckWhy.{DeckWhy}
use Rattle.deck_reader.specs.declared.why.DeckWhy.TheVariants.{WrongWords, BadLevel, Memory}
use Rattle.deck_reader.specs.declared.settings.Key.{Key}
use Rattle.deck_reader.specs.declared.settings.Key.TheVariants.{Vto, Kp, Level}
use Rattle.deck_reader.specs.declared.settings.Settings.{Settings}
use Rattle.deck_reader.specs.Words.{Word, are_pairs}
use Rattle.deck_reader.specs.Numbers.{number, ◌>>=◌}
use Rattle.deck_reader.specs.Models.{channel_of, key_of, unit_of, same_key, settings_of, last_of, settings_limit, ModelSaid, model, with_settings, model_of}
use Rattle.deck_reader.specs.Settings.{unset, set, with_setting, with_pairs, limit_of, said, level_one}
use Rattle.deck_reader.proofs.InversionLemmas.{steps, holds, ok_same}

-- ---- the last value of each key is kept

vto_is : (kept : Settings) (settings : List (Key × ℤ)) → (fold set kept settings).vto ≡ last_of Vto kept.vto settings
vto_is kept [] = refl
vto_is kept ((Vto, z) ∷ settings) = vto_is (set kept (Vto, z)) settings
vto_is kept ((Kp, z) ∷ settings) = vto_is (set kept (Kp, z)) settings
vto_is kept ((Level, z) ∷ settings) = vto_is (set kept (Level, z)) settings

kp_is : (kept : Settings) (settings : List (Key × ℤ)) → (fold set kept settings).kp ≡ last_of Kp kept.kp settings
kp_is kept [] = refl
kp_is kept ((Vto, z) ∷ settings) = kp_is (set kept (Vto, z)) settings
kp_is kept ((Kp, z) ∷ settings) = kp_is (set kept (Kp, z)) settings
kp_is kept ((Level, z) ∷ settings) = kp_is (set kept (Level, z)) settings

level_is : (kept : Settings) (settings : List (Key × ℤ)) → (fold set kept settings).level ≡ last_of Level kept.level settings
level_is kept [] = refl
level_is kept ((Vto, z) ∷ settings) = level_is (set kept (Vto, z)) settings
level_is kept ((Kp, z) ∷ settings) = level_is (set kept (Kp, z)) settings
level_is kept ((Level, z) ∷ settings) = level_is (set kept (Level, z)) settings

-- ---- and so is the first that is outside its limit

-- the settings that stand for what is kept
abbrev kept_as : Bool → ℤ → ℤ → List (Key × ℤ)
kept_as true vto kp = (Kp, kp) ∷ (Vto, vto) ∷ []
kept_as false vto kp = (Vto, vto) ∷ (Kp, kp) ∷ []

level_unlimited : (z : ℤ) (settings : List (Key × ℤ)) → settings_limit ((Level, z) ∷ settings) ≡ settings_limit settings
unfolding settings_limit
level_unlimited z settings = by (list_any (λ later. same_key Level later.0) settings) (settings_limit settings)
  where
    by : (again : Bool) (rest : Option Which) → (if again then rest else option_or None rest) ≡ rest
    by true rest = refl
    by false rest = refl

limit_kept : (first : Bool) (vto kp level : ℤ) (settings : List (Key × ℤ))
    → settings_limit (kept_as first vto kp ++ settings) ≡ limit_of (fold set (record { vto = vto; kp = kp; level = level; kp_first = first }) settings)
unfolding settings_limit
limit_kept true vto kp level [] = ap (option_or (outside (some_gain kp) Gain)) (or_none (outside (small_vto vto) Volts))
limit_kept false vto kp level [] = ap (option_or (outside (small_vto vto) Volts)) (or_none (outside (some_gain kp) Gain))
limit_kept true vto kp level ((Vto, z) ∷ settings) = limit_kept true z kp level settings
limit_kept false vto kp level ((Vto, z) ∷ settings) = limit_kept true z kp level settings
limit_kept true vto kp level ((Kp, z) ∷ settings) = limit_kept false vto z level settings
limit_kept false vto kp level ((Kp, z) ∷ settings) = limit_kept false vto z level settings
limit_kept true vto kp level ((Level, z) ∷ settings) =
    ap (λ rest. if list_any (λ later. same_key Kp later.0) settings then (if list_any (λ later. same_key Vto later.0) settings then rest else option_or (outside (small_vto vto) Volts) rest)
    else option_or (outside (some_gain kp) Gain) (if list_any (λ later. same_key Vto later.0) settings then rest else option_or (outside (small_vto vto) Volts) rest)) (level_unlimited z settings)
    ∙ limit_kept true vto kp z settings
limit_kept false vto kp level ((Level, z) ∷ settings) =
    ap (λ rest. if list_any (λ later. same_key Vto later.0) settings then (if list_any (λ later. same_key Kp later.0) settings then rest else option_or (outside (some_gain kp) Gain) rest)
    else option_or (outside (small_vto vto) Volts) (if list_any (λ later. same_key Kp later.0) settings then rest else option_or (outside (some_gain kp) Gain) rest)) (level_unlimited z settings)
    ∙ limit_kept false vto kp z settings

-- what stands where nothing is set is in its limit
limit_is : (settings : List (Key × ℤ)) → settings_limit settings ≡ limit_of (fold set unset settings)
unfolding settings_limit
limit_is settings =
    sym (by (list_any (λ later. same_key Vto later.0) settings) (list_any (λ later. same_key Kp later.0) settings) (settings_limit settings)) ∙ limit_kept false (pos 0) (pos 20000000) (pos 1) settings
  where
    by : (a b : Bool) (rest : Option Which)
        → (if a then (if b then rest else option_or None rest) else option_or None (if b then rest else option_or None rest)) ≡ rest
    by true true rest = refl
    by true false rest = refl
    by false true rest = refl
    by false false rest = refl

model_is : (channel : Channel) (settings : List (Key × ℤ)) → model channel settings ≡ said channel (fold set unset settings)
model_is channel settings = λ i. record {
  part = part.Level channel (sym (vto_is unset settings) i) (sym (kp_is unset settings) i);
  limit = limit_is settings i;
}

-- ---- words

-- one more pair
pub pairs-next : (kept next : Settings) (word value : Word) (words : List Word) → with_setting kept word value ≡ Ok next → with_pairs kept (word ∷ value ∷ words) ≡ with_pairs next words
unfolding with_setting with_pairs settings_of
pairs-next kept next word value words is = by (key_of word) is
  where
    after : Settings → List (Key × ℤ) → Result Settings DeckWhy
    after start settings = Ok (fold set start settings)

    one : (key : Key) (z : ℤ) (rest : Result (List (Key × ℤ)) DeckWhy)
        → (rest >>= (λ settings. Ok ((key, z) ∷ settings))) >>= after kept ≡ rest >>= after (set kept (key, z))
    one key z (Ok settings) = refl
    one key z (Err why) = refl

    by : (o : Option Key)
        → ◌≡◌ {A = Result Settings DeckWhy} (elim o [ None ↦ Ok kept | Some key ↦ number (unit_of key) value >>= (λ z. Ok (set kept (key, z))) ]) (Ok next)
        → (elim o [
          | None ↦ settings_of words
          | Some key ↦ number (unit_of key) value >>= (λ z. settings_of words >>= (λ settings. Ok ((key, z) ∷ settings)))
        ]) >>= after kept ≡ settings_of words >>= after next
    by None h = ap (λ k. settings_of words >>= after k) (ok_same kept next h)
    by (Some key) h =
        let read = steps (number (unit_of key) value) (λ z. Ok (set kept (key, z))) next h in
        ap (λ r. (r >>= (λ z. settings_of words >>= (λ settings. Ok ((key, z) ∷ settings)))) >>= after kept) read.1
        ∙ one key read.0 (settings_of words)
        ∙ ap (λ k. settings_of words >>= after k) (ok_same (set kept (key, read.0)) next read.2)

-- a value that is no number
pairs-bad : (kept : Settings) (word value : Word) (words : List Word) (why : DeckWhy) → with_setting kept word value ≡ Err why → with_pairs kept (word ∷ value ∷ words) ≡ Err why
unfolding with_setting with_pairs settings_of
pairs-bad kept word value words why is = by (key_of word) is
  where
    after : List (Key × ℤ) → Result Settings DeckWhy
    after settings = Ok (fold set kept settings)

    one : (key : Key) (r : Result ℤ DeckWhy) → ◌≡◌ {A = Result Settings DeckWhy} (r >>= (λ z. Ok (set kept (key, z)))) (Err why)
        → (r >>= (λ z. settings_of words >>= (λ settings. Ok ((key, z) ∷ settings)))) >>= after ≡ Err why
    one key (Ok z) h = absurd (cc)
    one key (Err e) h = cc

    by : (o : Option Key)
        → ◌≡◌ {A = Result Settings DeckWhy} (elim o [ None ↦ Ok kept | Some key ↦ number (unit_of key) value >>= (λ z. Ok (set kept (key, z))) ]) (Err why)
        → (elim o [
          | None ↦ settings_of words
          | Some key ↦ number (unit_of key) value >>= (λ z. settings_of words >>= (λ settings. Ok ((key, z) ∷ settings)))
        ]) >>= after ≡ Err why
    by None h = absurd (cc)
    by (Some key) h = one key (number (unit_of key) value) h

pub bad_pair : (kept : Settings) (word value : Word) (words : List Word) (why : DeckWhy) (said : Result Settings DeckWhy) → said ≡ with_pairs kept (word ∷ value ∷ words)
    → (why ≡ Memory) ⊎ (with_setting kept word value ≡ Err why) → (why ≡ Memory) ⊎ (said ≡ Err why)
bad_pair kept word value words why said is (inl memory) = inl memory
bad_pair kept word value words why said is (inr bad) = inr (is ∙ pairs-bad kept word value words why bad)

-- ---- the model

pub model_kept : (channel : Channel) (words : List Word) (kept : Settings) → with_pairs unset words ≡ Ok kept → settings_of words >>= with_settings channel ≡ level_one channel kept
unfolding with_pairs
model_kept channel words kept is =
    let read = steps (settings_of words) (λ settings. Ok (fold set unset settings)) kept is in
    ap (λ r. r >>= with_settings channel) read.1
    ∙ (λ i. if int_eq (sym (level_is unset read.0) i) (pos 1) then Ok (model_is channel read.0 i) else Err BadLevel)
    ∙ ap (level_one channel) (ok_same (fold set unset read.0) kept read.2)

pub model_bad : (channel : Channel) (words : List Word) (why : DeckWhy) → with_pairs unset words ≡ Err why → settings_of words >>= with_settings channel ≡ Err why
unfolding with_pairs
model_bad channel words why is = by (settings_of words) is
  where
    by : (r : Result (List (Key × ℤ)) DeckWhy) → ◌≡◌ {A = Result Settings DeckWhy} (r >>= (λ settings. Ok (fold set unset settings))) (Err why) → r >>= with_settings channel ≡ Err why
    by (Ok settings) h = absurd (cc)
    by (Err e) h = cc

-- ---- limits

both_none : (first : Bool) (volts gain : Option Which) → (if first then option_or gain volts else option_or volts gain) ≡ None → (volts ≡ None) × (gain ≡ None)
both_none true None None h = (refl, refl)
both_none true (Some v) None h = absurd (cc)
both_none true volts (Some g) h = absurd (cc)
both_none false None None h = (refl, refl)
both_none false (Some v) gain h = absurd (cc)
both_none false None (Some g) h = absurd (cc)

-- a model whose card has no value outside its limit has none
pub model_within : (words : List Word) (m : ModelSaid) → model_of words ≡ Ok m → m.limit ≡ None → part_limit m.part ≡ None
unfolding model_of part_limit
model_within [] m is none = absurd (cc)
model_within (word ∷ words) m is none = by (channel_of word) is
  where
    within : (channel : Channel) (settings : List (Key × ℤ)) → model channel settings ≡ m → part_limit m.part ≡ None
    within channel settings said_is =
        let kept = fold set unset settings in
        let same : said channel kept ≡ m = sym (model_is channel settings) ∙ said_is in
        let parts = both_none kept.kp_first (outside (small_vto kept.vto) Volts) (outside (some_gain kept.kp) Gain) (ap (λ x. x.limit) same ∙ none) in
        ap (λ x. part_limit x.part) (sym same) ∙ (λ i. option_or (parts.0 i) (option_or (parts.1 i) None))

    by : (o : Option Channel)
        → ◌≡◌ {A = Result ModelSaid DeckWhy} (elim o [ None ↦ Err WrongWords | Some channel ↦ if are_pairs words then (settings_of words >>= with_settings channel) else Err WrongWords ]) (Ok m)
        → part_limit m.part ≡ None
    by None h = absurd (cc)
    by (Some channel) h =
        let read = steps (settings_of words) (with_settings channel) m (pairs_of (are_pairs words) (settings_of words >>= with_settings channel) h) in
        within channel read.0 (holds _ BadLevel (model channel read.0) m read.2).1
      where
        pairs_of : (b : Bool) (r : Result ModelSaid DeckWhy) → (if b then r else Err WrongWords) ≡ Ok m → r ≡ Ok m
        pairs_of true r g = g
        pairs_of false r g = absurd (cc)
