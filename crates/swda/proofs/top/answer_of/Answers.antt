use Rattle.std.proofs.Common.{ℕ, List, refl, ap, ◌∙◌, inl, inr}
use Rattle.swda.specs.Calls.{Files}
use Rattle.swda.proofs.TopLemmas.{says_run, load_fault_says, gave_same, two_given, two_asked, rose_later, failed_asks, failed_rose}
use Rattle.swda.proofs.top.answer_of.Goals as goal

pub returns-in-Err-Failed-clause-says : goal.returns-in-Err-Failed-clause-says
returns-in-Err-Failed-clause-says g c =
    let names : Files = record { source = c.in-Some.file.now; plan = c.in-Some.plan.now } in
    let first = c.in-Err-Failed.ensures in
    let is = c.in-Err-Failed.field-0-is in
    load_fault_says _ names names.source
    (inl (record { words = c.in-Some.ensures; asked = failed_asks (List ℕ) _ _ _ _ is first.asks; given = first.gives; fault = failed_rose (List ℕ) _ _ _ is first.cause }, refl))
    c.load_fault.result c.load_fault.ensures

pub returns-in-Err-Failed-load-clause-says : goal.returns-in-Err-Failed-load-clause-says
returns-in-Err-Failed-load-clause-says g c =
    let names : Files = record { source = c.in-Some.file.now; plan = c.in-Some.plan.now } in
    let first = c.in-Ok.ensures in
    let second = c.in-Err-Failed-load.ensures in
    let is = c.in-Err-Failed-load.field-0-is in
    load_fault_says _ names names.plan
    (inr (
      record {
        words = c.in-Some.ensures;
        asked = two_asked _ _ _ names.source names.plan first.asks (failed_asks (List ℕ) _ _ _ _ is second.asks);
        source = c.in-Ok.source;
        given = second.gives ∙ first.gives;
        fault = rose_later _ _ _ first.cause (failed_rose (List ℕ) _ _ _ is second.cause);
      },
      refl,
    ))
    c.load_fault-in-Err-Failed-load.result c.load_fault-in-Err-Failed-load.ensures

pub returns-clause-says : goal.returns-clause-says
returns-clause-says g c =
    let file = c.in-Some.file.now in
    let plan = c.in-Some.plan.now in
    let first = c.in-Ok.ensures in
    let second = c.in-Ok-load.ensures in
    says_run _ (record { source = file; plan = plan }) (record { source = c.as_bytes.result.now; plan = c.as_bytes-2.result.now }) _ _
    (record {
      words = c.in-Some.ensures;
      asked = two_asked _ _ _ file plan first.asks second.asks;
      given = two_given _ _ _ file plan _ _ _ _ first.gives second.gives c.as_bytes.ensures c.as_bytes-2.ensures;
      source = gave_same _ _ c.in-Ok.source _ refl c.as_bytes.ensures first.text;
      plan = gave_same _ _ c.in-Ok-load.plan_text _ (first.keeps plan) c.as_bytes-2.ensures second.text;
      no_fault = second.cause ∙ first.cause;
    })
    c.in_ok-answer.ensures
