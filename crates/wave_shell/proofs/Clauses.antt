-- From how the parts end to the clauses of the top call.
use Rattle.std.proofs.Common.{◌≡◌, ℕ, List, [], Option, Some, None, Result, Ok, Err, sym, ◌∙◌, inl, inr, ⊎_elim, subst}
use Rattle.std.specs.Prelude.{◌⊎◌, IfSome}
use Rattle.std.specs.Io.KnownBytes.{Appends}
use Rattle.outside.specs.Causes.{Rose}
use Rattle.wave_shell.specs.declared.status.Status.{Status}
use Rattle.wave_shell.specs.declared.status.Status.TheVariants as status
use Rattle.wave_shell.specs.declared.refusal.Refusal.{Refusal}
use Rattle.wave_shell.specs.declared.refusal.Refusal.TheVariants as refused
use Rattle.wave_shell.specs.declared.refusal.Stop.{Stop}
use Rattle.wave_shell.specs.declared.refusal.Stop.TheVariants as stop
use Rattle.wave_shell.specs.declared.job.Job.{Job}
use Rattle.wave_shell.specs.Words.{deck_name, files, script_name}
use Rattle.wave_shell.specs.Program.{judged, IsFault, IsValidWhereTold, MayFailToRead, MaySay, NameRose, Says, SaysFront}
use Rattle.wave_shell.specs.Endings.{Answers, Concerns, Ends, JudgesWords}
use Rattle.wave_shell.proofs.Endings.{nothing_said}

-- all that it says of how it ended
pub record Clauses (b : List ℕ → Option (List ℕ)) (words : List (List ℕ)) (f g : List ℕ → ℕ)
    (old new : Option (List ℕ)) (k l : ℕ) (result : Status) : Type 0 where
  pub answered : IsFault result ⊎ IfSome (judged b words) (λ j. Says j result old new)
  pub words' : result ≡ status.Words → files words ≡ None
  pub script : result ≡ status.Script → script_name words ≡ None → ⊥
  pub read : result ≡ status.Read → MayFailToRead b f g words × Appends old new []
  pub write : result ≡ status.Write → Rose k l
  pub front : (result ≡ status.Write) ⊎ (result ≡ status.Memory) → IfSome (judged b words) (λ j. SaysFront j old new)
  pub complete : (NameRose f g (deck_name words) → ⊥) → (NameRose f g (script_name words) → ⊥) → (Rose k l → ⊥)
      → (result ≡ status.Memory) ⊎ IfSome (judged b words) (λ j. Says j result old new)

-- a fact of one judgement is a fact of what is judged, where that is told
known : (o : Option (Result Job Refusal)) (j : Result Job Refusal) (Q : Result Job Refusal → Type 0)
    → IfSome o (λ said. said ≡ j) → Q j → IfSome o Q
known None j Q h q = tt
known (Some x) j Q h q = subst Q (sym h) q

-- a fact of each judgement
each : (o : Option (Result Job Refusal)) (Q : Result Job Refusal → Type 0) → ((j : Result Job Refusal) → Q j)
    → IfSome o Q
each None Q h = tt
each (Some j) Q h = h j

-- the statuses that a refusal or a job may have
abbrev pub IsSaid : Status → Type 0
IsSaid status.Ok = Unit {0}
IsSaid status.Words = Unit {0}
IsSaid status.Deck = Unit {0}
IsSaid status.Script = Unit {0}
IsSaid status.Memory = ⊥
IsSaid status.Read = ⊥
IsSaid status.Write = ⊥

may_be : (j : Result Job Refusal) (s : Status) (text : List ℕ) → MaySay j s text → IsSaid s
may_be (Err refused.Words) s text h = subst IsSaid (sym h.0) tt
may_be (Err refused.DeckTooLong) s text h = subst IsSaid (sym h.0) tt
may_be (Err (refused.Deck r)) s text h = subst IsSaid (sym h.0) tt
may_be (Err refused.ScriptTooLong) s text h = subst IsSaid (sym h.0) tt
may_be (Err (refused.Script r)) s text h = subst IsSaid (sym h.0) tt
may_be (Ok j) s text h = subst IsSaid (sym h.0) tt

-- what a judgement concerns
abbrev pub Fits : List (List ℕ) → Result Job Refusal → Type 0
Fits words (Err r) = Concerns words r
Fits words (Ok j) = Unit {0}

no_words : (words : List (List ℕ)) (j : Result Job Refusal) (text : List ℕ) → Fits words j
    → MaySay j status.Words text → files words ≡ None
no_words words (Err refused.Words) text fits h = fits
no_words words (Err refused.DeckTooLong) text fits h = absurd (cc)
no_words words (Err (refused.Deck r)) text fits h = absurd (cc)
no_words words (Err refused.ScriptTooLong) text fits h = absurd (cc)
no_words words (Err (refused.Script r)) text fits h = absurd (cc)
no_words words (Ok j) text fits h = absurd (cc)

no_script : (words : List (List ℕ)) (j : Result Job Refusal) (text : List ℕ) → Fits words j
    → MaySay j status.Script text → script_name words ≡ None → ⊥
no_script words (Err refused.Words) text fits h = absurd (cc)
no_script words (Err refused.DeckTooLong) text fits h = absurd (cc)
no_script words (Err (refused.Deck r)) text fits h = absurd (cc)
no_script words (Err refused.ScriptTooLong) text fits h = fits
no_script words (Err (refused.Script r)) text fits h = fits
no_script words (Ok j) text fits h = absurd (cc)

-- a judgement was answered
judged_clauses : (b : List ℕ → Option (List ℕ)) (words : List (List ℕ)) (f g : List ℕ → ℕ) (old new : Option (List ℕ))
    (k l : ℕ) (result : Status) (j : Result Job Refusal)
    → IfSome (judged b words) (λ said. said ≡ j) → Fits words j → Ends j result old new k l
    → Clauses b words f g old new k l result
judged_clauses b words f g old new k l result j is fits ends = ⊎_elim
    (λ (given : Says j result old new).
    let says : IfSome (judged b words) (λ x. Says x result old new) =
    known (judged b words) j (λ x. Says x result old new) is given in
    let said : IsSaid result = may_be j result given.0 given.1 in
    record {
      answered = inr says;
      words' = λ e. no_words words j given.0 fits (subst (λ (s : Status). MaySay j s given.0) e given.1);
      script = λ e. no_script words j given.0 fits (subst (λ (s : Status). MaySay j s given.0) e given.1);
      read = λ e. absurd (subst IsSaid e said);
      write = λ e. absurd (subst IsSaid e said);
      front = λ h. absurd (⊎_elim (λ (e : result ≡ status.Write). subst IsSaid e said)
          (λ (e : result ≡ status.Memory). subst IsSaid e said) h);
      complete = λ _ _ _. inr says;
    })
    (λ rest. ⊎_elim
    (λ (failed : (result ≡ status.Write) × Rose k l × SaysFront j old new).
    record {
      answered = inl (subst IsFault (sym failed.0) tt);
      words' = λ e. let clash : status.Write ≡ status.Words = sym failed.0 ∙ e in absurd (cc);
      script = λ e. let clash : status.Write ≡ status.Script = sym failed.0 ∙ e in absurd (cc);
      read = λ e. let clash : status.Write ≡ status.Read = sym failed.0 ∙ e in absurd (cc);
      write = λ _. failed.1;
      front = λ _. known (judged b words) j (λ x. SaysFront x old new) is failed.2;
      complete = λ _ _ no. absurd (no failed.1);
    })
    (λ (wanting : (result ≡ status.Memory) × SaysFront j old new).
    record {
      answered = inl (subst IsFault (sym wanting.0) tt);
      words' = λ e. let clash : status.Memory ≡ status.Words = sym wanting.0 ∙ e in absurd (cc);
      script = λ e. let clash : status.Memory ≡ status.Script = sym wanting.0 ∙ e in absurd (cc);
      read = λ e. let clash : status.Memory ≡ status.Read = sym wanting.0 ∙ e in absurd (cc);
      write = λ e. let clash : status.Memory ≡ status.Write = sym wanting.0 ∙ e in absurd (cc);
      front = λ _. known (judged b words) j (λ x. SaysFront x old new) is wanting.1;
      complete = λ _ _ _. inl wanting.0;
    })
    rest)
    ends

-- what the words gave was answered
pub clauses : (b : List ℕ → Option (List ℕ)) (words : List (List ℕ)) (f g : List ℕ → ℕ) (old new : Option (List ℕ))
    (k l : ℕ) (result : Status) (given : Result Job Stop)
    → JudgesWords b f g words given → Answers given result old new k l → Clauses b words f g old new k l result
clauses b words f g old new k l result (Ok j) is ends = judged_clauses b words f g old new k l result (Ok j) is tt ends
clauses b words f g old new k l result (Err (stop.Refused r)) is ends =
    judged_clauses b words f g old new k l result (Err r) is.0 is.1 ends
clauses b words f g old new k l result (Err stop.Read) is ends = record {
  answered = inl (subst IsFault (sym ends.0) tt);
  words' = λ e. let clash : status.Read ≡ status.Words = sym ends.0 ∙ e in absurd (cc);
  script = λ e. let clash : status.Read ≡ status.Script = sym ends.0 ∙ e in absurd (cc);
  read = λ _. (is, ends.1);
  write = λ e. let clash : status.Read ≡ status.Write = sym ends.0 ∙ e in absurd (cc);
  front = λ h. absurd (⊎_elim
      (λ (e : result ≡ status.Write). let clash : status.Read ≡ status.Write = sym ends.0 ∙ e in cc)
      (λ (e : result ≡ status.Memory). let clash : status.Read ≡ status.Memory = sym ends.0 ∙ e in cc) h);
  complete = λ deck script _. absurd (⊎_elim deck (λ
      (h : NameRose f g (script_name words) × IsValidWhereTold b (deck_name words)). script h.0) is);
}
clauses b words f g old new k l result (Err stop.Memory) is ends = record {
  answered = inl (subst IsFault (sym ends.0) tt);
  words' = λ e. let clash : status.Memory ≡ status.Words = sym ends.0 ∙ e in absurd (cc);
  script = λ e. let clash : status.Memory ≡ status.Script = sym ends.0 ∙ e in absurd (cc);
  read = λ e. let clash : status.Memory ≡ status.Read = sym ends.0 ∙ e in absurd (cc);
  write = λ e. let clash : status.Memory ≡ status.Write = sym ends.0 ∙ e in absurd (cc);
  front = λ _. each (judged b words) (λ j. SaysFront j old new) (λ j. nothing_said j old new ends.1);
  complete = λ _ _ _. inl ends.0;
}
