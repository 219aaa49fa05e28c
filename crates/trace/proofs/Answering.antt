-- What a traced walk leaves in the log and replies, refused or not.
use Rattle.std.proofs.Common.{◌≡◌, ℕ, List, length, Some, None, Ok, Option, Result, ap, ◌∙◌, arith}
use Rattle.kinds.specs.declared.refusal.Refusal.{Refusal}
use Rattle.kinds.specs.Replies.{after, told}
use Rattle.graph.specs.Meaning.{Meaning}
use Rattle.walk.specs.Walk.{walk}
use Rattle.search.proofs.Laws.{ok_value}
use Rattle.trace.specs.declared.options.TraceEnd.{TraceEnd}
use Rattle.trace.specs.declared.recorder.Recorder.{Recorder}
use Rattle.trace.specs.Recording.{orders_of, recording}
use Rattle.trace.specs.Trace.{events, overwritten, traced}
use Rattle.trace.specs.TraceEnds.{trace_end}
use Rattle.trace.proofs.Recorded.{recorded_walk}

module _ (G : Meaning) (us : List ℕ) (x : Recorder) where
  -- x is the recorder before the walk, y after it, and r the reply
  pub record Replied (why : Option Refusal) (y : Recorder) (r : Result TraceEnd Refusal) : Type 0 where
    pub same : y.log.ghost_name ≡ x.log.ghost_name
    pub holds : y.log.now ≡ after why x.log.now (overwritten (events (traced G (orders_of x) us).log) x.log.now)
    pub answer : r ≡ told why (trace_end (traced G (orders_of x) us) (length x.log.now))

  pub accepted : x.used ≡ 0 → (why : Option Refusal) (y : Recorder) (stop : Option ℕ)
      → ◌≡◌ {A = Result (Option ℕ) Refusal} (Ok stop) (told why (walk recording G us x).stop) → y ≡ after why x (walk recording G us x).visitor
      → Replied why y (Ok (record { events = y.used; stop = stop }))
  accepted z (Some e) y stop a v = let z : ◌≡◌ {A = ℕ} 0 1 = cc in absurd (omega arith)
  accepted z None y stop a v =
      let w = recorded_walk G us x z in
      record {
        same = ap (λ r. r.log.ghost_name) v ∙ w.recorded.same;
        holds = ap (λ r. r.log.now) v ∙ w.recorded.holds;
        answer = ap (λ n. Ok (record { events = n; stop = stop })) (ap (λ r. r.used) v ∙ w.recorded.used)
            ∙ ap (λ o. Ok (record { events = (trace_end (traced G (orders_of x) us) (length x.log.now)).events; stop = o })) (ok_value a ∙ w.stopped);
      }
