-- Typed code is never stuck, and each step of it leaves fewer instructions ahead.
use Rattle.std.proofs.Common.{◌≡◌, ℕ, zero, suc, ◌+◌, ◌<◌, ◌≤◌, List, [], ◌∷◌, Option, Some, None, Bool, true, false, refl, sym, ap, ◌∙◌, subst, arith, drop}
use Rattle.std.specs.Prelude.{◌+ℤ◌, slice_get, nat_lt, if◌then◌else◌}
use Rattle.std.specs.Fmt.{signed_decimal}
use Rattle.std.proofs.lemmas.Bool.{ltb-true, ltb-false}
use Rattle.std.proofs.lemmas.Option.{slice_get_within}
use Rattle.sw_job.specs.declared.value.Value.{Value}
use Rattle.sw_job.specs.declared.value.Value.TheVariants.{Int, Str, Void}
use Rattle.sw_job.specs.declared.value.TrapKind.TheVariants.{Overflow}
use Rattle.sw_job.specs.declared.value.Ty.{Ty}
use Rattle.sw_job.specs.declared.value.Ty.TheVariants.{Int as IntTy, Str as StrTy, Void as VoidTy}
use Rattle.sw_job.specs.declared.instr.Instr.{Instr}
use Rattle.sw_job.specs.declared.instr.Instr.TheVariants.{BeginStmt, PushInt, PushStr, Load, Add, Print, Take, Discard, ReturnVoid}
use Rattle.sw_job.specs.declared.turn.Operand.{Operand}
use Rattle.sw_job.specs.declared.turn.Operand.TheVariants.{Value as Operation}
use Rattle.sw_job.specs.declared.turn.Frame.{Frame}
use Rattle.sw_job.specs.declared.turn.Ask.TheVariants.{Print as AskPrint}
use Rattle.sw_job.specs.declared.turn.Exit.TheVariants.{Ask, Slice}
use Rattle.sw_job.specs.declared.turn.Given.TheVariants.{Nothing, Value as GivenValue}
use Rattle.sw_job.specs.declared.code.FuncCode.{FuncCode}
use Rattle.sw_job.specs.Machine.{frame, instr_in, fetch, is_take, CodeNext, CodeGoes, CodeStops, CodeNoStep, on_value, on_text, on_operand, on_outcome, at_take, not_take, code_give, code_act, code_act_at, code_step, code_then, code_run, code_enter, CodeStuck}
use Rattle.sw_job.specs.Values.{is_int, printed, Gives, Traps}
use Rattle.sw_job.specs.Typed.{ty_of, types_of, result_of, Goes, Waits, IsPrintable, Agrees, IsTyped, TypedCallers, TypedFrames, NeverStuck, size_of, ahead, all_ahead, Safe, EachStepIsSafe, SafeEntry, EachEntryIsSafe}

-- an address with an instruction is before the end
fetch_within : (func : Option FuncCode) (p : ℕ) (i : Instr) → instr_in func p ≡ Some i → p < size_of func
fetch_within None p i e = absurd (cc)
fetch_within (Some func) p i e = slice_get_within func.instrs p i e

types_of-drop : (count : ℕ) (operands : List Operand) → types_of (drop count operands) ≡ drop count (types_of operands)
types_of-drop zero operands = refl
types_of-drop (suc count) [] = refl
types_of-drop (suc count) (Operation v ∷ operands) = types_of-drop count operands

-- an operand has the type that is told of it
pub operand_at : (o : List Operand) (depth : ℕ) (t : Ty) → slice_get (types_of o) depth ≡ Some t → (v : Value) × (slice_get o depth ≡ Some (Operation v)) × (ty_of v ≡ t)
operand_at [] depth t e = absurd (cc)
operand_at (Operation v ∷ o) zero t e = (v, refl, cc)
operand_at (Operation v ∷ o) (suc depth) t e = operand_at o depth t e

-- a value of a type that can be printed has a text
text_of : (v : Value) (t : Ty) → ty_of v ≡ t → IsPrintable t → (text : List ℕ) × (printed v ≡ Some text)
text_of (Int n) t e printable = (signed_decimal n, refl)
text_of (Str text) t e printable = (text, refl)
text_of Void t e printable = absurd (subst IsPrintable (sym e) printable)

-- where no value is awaited, a start without a value goes on
goes_on : (i : Option Instr) (next : CodeNext) → is_take i ≡ false → not_take i next ≡ next
goes_on None next e = refl
goes_on (Some BeginStmt) next e = refl
goes_on (Some (PushInt n)) next e = refl
goes_on (Some (PushStr text)) next e = refl
goes_on (Some (Load depth)) next e = refl
goes_on (Some Add) next e = refl
goes_on (Some Print) next e = refl
goes_on (Some Take) next e = absurd (cc)
goes_on (Some (Discard count)) next e = refl
goes_on (Some ReturnVoid) next e = refl

module _ (code : List FuncCode) (typed : IsTyped code) where
  -- to the next address of the same frame
  onward : (max f p : ℕ) (i : Instr) (o : List Operand) (types : List Ty) (ms : List Frame) (n n' : ℕ) → fetch code f p ≡ Some i → types_of o ≡ types → Goes code f (p + 1) types → TypedCallers code (result_of code f) ms → n' ≤ n + 1 → n' ≤ max → Safe code max (ahead code f p + all_ahead code ms) n (CodeGoes (frame f (p + 1) o) ms n')
  onward max f p i o types ms n n' e t g callers one most =
      let within = fetch_within (slice_get code f) p i e in
      ((subst (λ z. Goes code f (p + 1) z) (sym t) g, callers), record { fewer = omega arith; counts = one; within = most })

  -- a value for callers that await one of its type
  give_safe : (max before n : ℕ) (v : Value) (ms : List Frame) → n ≤ max → TypedCallers code (ty_of v) ms → all_ahead code ms < before → Safe code max before n (code_give code v ms n)
  give_safe max before n v [] most callers l = (refl, l, refl)
  give_safe max before n v (m ∷ ms) most callers l =
      let waits = callers.0 in
      let within = fetch_within (slice_get code m.func.0) m.address Take waits.0 in
      subst (λ z. Safe code max before n (at_take z (CodeGoes (frame m.func.0 (m.address + 1) (Operation v ∷ m.operands)) ms n))) (sym waits.0) ((waits.2, callers.1), record { fewer = omega arith; counts = omega arith; within = most })

  -- the sum of two integers is one, or a trap
  sum_safe : (max f p : ℕ) (o : List Operand) (rest : List Ty) (ms : List Frame) (n : ℕ) → n ≤ max → fetch code f p ≡ Some Add → types_of o ≡ IntTy ∷ IntTy ∷ rest → Goes code f (p + 1) (IntTy ∷ rest) → TypedCallers code (result_of code f) ms → Safe code max (ahead code f p + all_ahead code ms) n (code_act code max Add f p o ms n)
  sum_safe max f p [] rest ms n most e t g callers = absurd (cc)
  sum_safe max f p (Operation y ∷ []) rest ms n most e t g callers = absurd (cc)
  sum_safe max f p (Operation Void ∷ Operation x ∷ o) rest ms n most e t g callers = absurd (cc)
  sum_safe max f p (Operation (Str y) ∷ Operation x ∷ o) rest ms n most e t g callers = absurd (cc)
  sum_safe max f p (Operation (Int y) ∷ Operation Void ∷ o) rest ms n most e t g callers = absurd (cc)
  sum_safe max f p (Operation (Int y) ∷ Operation (Str x) ∷ o) rest ms n most e t g callers = absurd (cc)
  sum_safe max f p (Operation (Int y) ∷ Operation (Int x) ∷ o) rest ms n most e t g callers = by (is_int (x +ℤ y))
    where
      types : types_of (Operation (Int (x +ℤ y)) ∷ o) ≡ IntTy ∷ rest
      types = cc

      by : (z : Bool) → Safe code max (ahead code f p + all_ahead code ms) n (on_outcome (if z then Gives (Int (x +ℤ y)) else Traps Overflow) n (λ v. CodeGoes (frame f (p + 1) (Operation v ∷ o)) ms n))
      by true = onward max f p Add (Operation (Int (x +ℤ y)) ∷ o) (IntTy ∷ rest) ms n n e types g callers (omega arith) most
      by false = let within = fetch_within (slice_get code f) p Add e in (refl, omega arith, refl)

  instr_safe : (max f p : ℕ) (i : Instr) (o : List Operand) (ms : List Frame) (n : ℕ) → n ≤ max → fetch code f p ≡ Some i → Goes code f p (types_of o) → TypedCallers code (result_of code f) ms → Agrees code f p i (types_of o) → Safe code max (ahead code f p + all_ahead code ms) n (code_act code max i f p o ms n)
  instr_safe max f p BeginStmt o ms n most e g callers agrees = by (nat_lt n max) (ltb-true n max) (ltb-false n max)
    where
      by : (z : Bool) → (z ≡ true → n < max) → (z ≡ false → max ≤ n) → Safe code max (ahead code f p + all_ahead code ms) n (if z then CodeGoes (frame f (p + 1) o) ms (n + 1) else CodeStops Slice (frame f p o ∷ ms) n)
      by true below over = let less = below refl in onward max f p BeginStmt o (types_of o) ms n (n + 1) e refl agrees callers (omega arith) (omega arith)
      by false below over = ((g, callers), (refl, over refl), refl)
  instr_safe max f p (PushStr text) o ms n most e g callers agrees = onward max f p (PushStr text) (Operation (Str text) ∷ o) (StrTy ∷ types_of o) ms n n e refl agrees callers (omega arith) most
  instr_safe max f p (PushInt m) o ms n most e g callers agrees = onward max f p (PushInt m) (Operation (Int m) ∷ o) (IntTy ∷ types_of o) ms n n e refl agrees callers (omega arith) most
  instr_safe max f p (Load depth) o ms n most e g callers agrees =
      let held = operand_at o depth agrees.0 agrees.1 in
      let types : types_of (Operation held.0 ∷ o) ≡ agrees.0 ∷ types_of o = ap (λ z. z ∷ types_of o) held.2 in
      subst (λ z. Safe code max (ahead code f p + all_ahead code ms) n (on_operand z (λ v. CodeGoes (frame f (p + 1) (Operation v ∷ o)) ms n))) (sym held.1) (onward max f p (Load depth) (Operation held.0 ∷ o) (agrees.0 ∷ types_of o) ms n n e types agrees.2 callers (omega arith) most)
  instr_safe max f p Add o ms n most e g callers agrees = sum_safe max f p o agrees.0 ms n most e agrees.1 agrees.2 callers
  instr_safe max f p Print o ms n most e g callers agrees = by o agrees.2
    where
      by : (o : List Operand) → types_of o ≡ agrees.0 ∷ agrees.1 → Safe code max (ahead code f p + all_ahead code ms) n (on_value o (λ v rest. on_text (printed v) (λ text. CodeStops (Ask (AskPrint text)) (frame f (p + 1) rest ∷ ms) n)))
      by [] t = absurd (cc)
      by (Operation v ∷ rest) t =
          let within = fetch_within (slice_get code f) p Print e in
          let rest_types : agrees.1 ≡ types_of rest = cc in
          let text = text_of v agrees.0 (cc) agrees.3 in
          subst (λ z. Safe code max (ahead code f p + all_ahead code ms) n (on_text z (λ text. CodeStops (Ask (AskPrint text)) (frame f (p + 1) rest ∷ ms) n))) (sym text.1) ((subst (λ z. Waits code f (p + 1) VoidTy z) rest_types agrees.4, callers), omega arith, refl)
  instr_safe max f p Take o ms n most e g callers agrees = let awaits : true ≡ false = sym (ap is_take e) ∙ g.1 in absurd (cc)
  instr_safe max f p (Discard count) o ms n most e g callers agrees = onward max f p (Discard count) (drop count o) (drop count (types_of o)) ms n n e (types_of-drop count o) agrees.1 callers (omega arith) most
  instr_safe max f p ReturnVoid o ms n most e g callers agrees =
      let within = fetch_within (slice_get code f) p ReturnVoid e in
      give_safe max (ahead code f p + all_ahead code ms) n Void ms most (subst (λ z. TypedCallers code z ms) agrees callers) (omega arith)

  pub each_step_is_safe : EachStepIsSafe code
  each_step_is_safe max m ms n most frames =
      let i = typed.within m.func.0 m.address (types_of m.operands) frames.0.0 in
      let agrees = typed.each m.func.0 m.address i.0 (types_of m.operands) i.1 frames.0.0 in
      subst (λ z. Safe code max (all_ahead code (m ∷ ms)) n (code_act_at code max z m.func.0 m.address m.operands ms n)) (sym i.1) (instr_safe max m.func.0 m.address i.0 m.operands ms n most i.1 frames.0 frames.1 agrees)

  pub each_entry_is_safe : EachEntryIsSafe code
  each_entry_is_safe given [] start = absurd start
  each_entry_is_safe Nothing (m ∷ ms) start = subst (λ z. SafeEntry code (all_ahead code (m ∷ ms)) z) (sym (goes_on (fetch code m.func.0 m.address) (CodeGoes m ms 0) start.0.1)) (start, omega arith, refl)
  each_entry_is_safe (GivenValue v) (m ∷ ms) start =
      let waits = start.0 in
      let within = fetch_within (slice_get code m.func.0) m.address Take waits.0 in
      subst (λ z. SafeEntry code (all_ahead code (m ∷ ms)) (at_take z (CodeGoes (frame m.func.0 (m.address + 1) (Operation v ∷ m.operands)) ms 0))) (sym waits.0) ((waits.2, start.1), omega arith, refl)

  -- a run of typed frames is never stuck
  run_goes : (max steps : ℕ) (m : Frame) (ms : List Frame) (n : ℕ) → n ≤ max → TypedFrames code m ms → code_run code max steps m ms n ≡ CodeStuck → ⊥
  run_goes max zero m ms n most frames e = cc
  run_goes max (suc steps) m ms n most frames e = by (code_step code max m ms n) (run_goes max steps) (each_step_is_safe max m ms n most frames) e
    where
      by : (next : CodeNext) → ((m1 : Frame) (ms1 : List Frame) (n1 : ℕ) → n1 ≤ max → TypedFrames code m1 ms1 → code_run code max steps m1 ms1 n1 ≡ CodeStuck → ⊥) → Safe code max (all_ahead code (m ∷ ms)) n next → code_then next (code_run code max steps) ≡ CodeStuck → ⊥
      by (CodeGoes m1 ms1 n1) later safe h = later m1 ms1 n1 safe.1.within safe.0 h
      by (CodeStops exit ms1 n1) later safe h = cc
      by CodeNoStep later safe h = safe

  pub never_stuck : NeverStuck code
  never_stuck given max frames start reaches = by (code_enter code given frames) (each_entry_is_safe given frames start) reaches.1
    where
      by : (next : CodeNext) → SafeEntry code (all_ahead code frames) next → code_then next (code_run code max reaches.0) ≡ CodeStuck → ⊥
      by (CodeGoes m ms n) begins h = let none = begins.2 in run_goes max reaches.0 m ms n (omega arith) begins.0 h
      by (CodeStops exit ms n) begins h = cc
      by CodeNoStep begins h = begins
