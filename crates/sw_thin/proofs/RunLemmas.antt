-- What a run reports, from what its steps say.
use Rattle.std.proofs.Common.{◌≡◌, ℕ, ◌<◌, List, [], ◌∷◌, length, Some, None, sym, ap, ◌∙◌, subst, arith}
use Rattle.std.specs.Prelude.{slice_get}
use Rattle.sw_thin.specs.Program.{Stmt, Func, main_func}
use Rattle.sw_job.specs.declared.code.FuncCode.{FuncCode}
use Rattle.sw_thin.specs.declared.world.Job.TheVariants.{Ended}
use Rattle.sw_thin.specs.Carries.{Carries}
use Rattle.sw_thin.specs.Thin.{IsThin}
use Rattle.sw_thin.specs.State.{MeaningState}
use Rattle.sw_thin.specs.History.{start_state}
use Rattle.sw_thin.specs.ReportText.{report_text}
use Rattle.sw_thin.specs.World.{WorldState, state_of, IsLegal, IsLegalForAll, IsLost, IsAtEnd, trap_of}
use Rattle.sw_thin.specs.Reports.{Reports}
use Rattle.sw_thin.proofs.HistoryLemmas.{driven_one}
use Rattle.sw_thin.proofs.Untrapped.{thin_untrapped}
use Rattle.sw_thin.proofs.WorldLemmas.{IsDone, done_when_ended, ended_untrapped}

-- code that carries a program of one func has it
pub has_main : (main : Func) (funcs : List Func) (code : List FuncCode) → funcs ≡ main ∷ [] → Carries funcs code → 0 < length code
has_main main funcs code is carries = go code (subst (λ t. Carries t code) is carries)
  where
    go : (code : List FuncCode) → Carries (main ∷ []) code → 0 < length code
    go [] c = let h = c.results 0 in absurd (cc)
    go (f ∷ fs) c = omega arith

-- what a world of a thin tree says of its history
legal_thin : (body : List Stmt) (funcs : List Func) (code : List FuncCode) (w : WorldState) → funcs ≡ main_func body ∷ [] → Carries funcs code → w.code ≡ code → w.main ≡ 0 → ¬ IsLost w.job → (¬ IsLost w.job → IsLegalForAll w) → IsLegal (main_func body) w
legal_thin body funcs code w is carries same_code same_main there legal =
    let carried : Carries (main_func body ∷ []) w.code = subst (λ c. Carries (main_func body ∷ []) c) (sym same_code) (subst (λ t. Carries t code) is carries) in
    let at_main : slice_get (main_func body ∷ []) w.main ≡ Some (main_func body) = ap (slice_get (main_func body ∷ [])) same_main in
    legal there (main_func body ∷ []) (main_func body) carried at_main

-- a world of a thin tree has no trap
pub untrapped : (body : List Stmt) (funcs : List Func) (code : List FuncCode) (w : WorldState) → IsThin body → funcs ≡ main_func body ∷ [] → Carries funcs code → w.code ≡ code → w.main ≡ 0 → ¬ IsLost w.job → (¬ IsLost w.job → IsLegalForAll w) → trap_of w.job ≡ None
untrapped body funcs code w thin is carries same_code same_main there legal =
    let l = legal_thin body funcs code w is carries same_code same_main there legal in
    thin_untrapped body thin w.history (state_of w.job w.log w.begun l.activation) l.kept

-- the world at its end is reported
pub reported : (body : List Stmt) (funcs : List Func) (code : List FuncCode) (w : WorldState) (text : List ℕ) → IsThin body → funcs ≡ main_func body ∷ [] → Carries funcs code → w.code ≡ code → w.main ≡ 0 → ¬ IsLost w.job → IsAtEnd w.job → (¬ IsLost w.job → IsLegalForAll w) → text ≡ report_text (state_of w.job w.log w.begun None) (length w.history) → Reports (main_func body) text
reported body funcs code w text thin is carries same_code same_main there end legal said =
    let l = legal_thin body funcs code w is carries same_code same_main there legal in
    let ended : w.job ≡ Ended = ended_untrapped w.job end there (untrapped body funcs code w thin is carries same_code same_main there legal) in
    let done : IsDone (main_func body) w = done_when_ended (main_func body) w ended l in
    record {
      entries = w.history;
      state = done.state;
      driven = done.driven;
      only = λ others other d. driven_one (start_state (main_func body)) w.history others done.state other done.driven d;
      replays = done.replays;
      untrapped = ap (λ (s : MeaningState). s.trap) done.shown;
      text_is = said ∙ ap (λ o. report_text (state_of o w.log w.begun None) (length w.history)) ended ∙ ap (λ s. report_text s (length w.history)) (sym done.shown);
    }
