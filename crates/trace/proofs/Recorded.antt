-- What the recorder's log holds at the end of a walk.
use Rattle.std.proofs.Common.{◌≡◌, ℕ, ◌+◌, min, Bool, true, false, cond, ltb, ◌⊎◌, List, [], ◌∷◌, ◌++◌, length, set, Option, sym, refl, ap, ◌∙◌, subst, inl, inr, arith, length-append}
use Rattle.std.proofs.lemmas.Bool.{cases_Bool, ltb-true, ltb-false}
use Rattle.graph.specs.Meaning.{Meaning}
use Rattle.walk.specs.declared.event.DfsEvent.{DfsEvent}
use Rattle.walk.specs.Walk.{Report, walk}
use Rattle.walk.proofs.SameStop.{same_log, same_stop}
use Rattle.trace.specs.declared.recorder.Recorder.{Recorder}
use Rattle.trace.specs.Recording.{noted, orders_of, passed, recording, written}
use Rattle.trace.specs.Trace.{counted, events, overwritten, traced, trace_visitor}
use Rattle.trace.proofs.Heard.{heard, walk_heard}
use Rattle.trace.proofs.Overwriting.{length_overwritten, overwritten_full, overwritten_more}

-- the recorder y is x after it heard es
pub record Recorded (x y : Recorder) (es : List DfsEvent) : Type 0 where
  pub same : y.log.ghost_name ≡ x.log.ghost_name
  pub holds : y.log.now ≡ overwritten es x.log.now
  pub used : y.used ≡ min (length x.log.now) (length es)

recorded_more : (x y : Recorder) (es : List DfsEvent) (e : DfsEvent) → Recorded x y es → Recorded x (noted y e) (es ++ (e ∷ []))
recorded_more x y es e h = by (cases_Bool (ltb y.used (length y.log.now)))
  where
    long : length y.log.now ≡ length x.log.now
    long = ap length h.holds ∙ length_overwritten es x.log.now

    one_more : length (es ++ (e ∷ [])) ≡ length es + 1
    one_more = length-append es (e ∷ [])

    by : (ltb y.used (length y.log.now) ≡ true) ⊎ (ltb y.used (length y.log.now) ≡ false) → Recorded x (noted y e) (es ++ (e ∷ []))
    by (inl t) =
        let less = ltb-true y.used (length y.log.now) t in
        let counts = h.used in
        let l = long in
        let m = one_more in
        let at : y.used ≡ length es = omega arith in
        subst (λ b. Recorded x (cond b (written y e) (passed y)) (es ++ (e ∷ []))) (sym t) (record {
          same = h.same;
          holds = ap (λ xs. set xs y.used e) h.holds
              ∙ ap (λ i. set (overwritten es x.log.now) i e) at
              ∙ overwritten_more es x.log.now e (omega arith);
          used = omega arith;
        })
    by (inr f) =
        let no_less = ltb-false y.used (length y.log.now) f in
        let counts = h.used in
        let l = long in
        let m = one_more in
        subst (λ b. Recorded x (cond b (written y e) (passed y)) (es ++ (e ∷ []))) (sym f) (record {
          same = h.same;
          holds = h.holds ∙ overwritten_full es x.log.now e (omega arith);
          used = omega arith;
        })

heard_recorded : (x : Recorder) → x.used ≡ 0 → (log : List (Report ℕ)) → Recorded x (heard recording x log) (events log)
unfolding heard events overwritten
heard_recorded x z [] = record { same = refl; holds = refl; used = omega arith }
heard_recorded x z (r ∷ log) = recorded_more x (heard recording x log) (events log) r.event (heard_recorded x z log)

moves : (x : Recorder) (e : DfsEvent) → counted (orders_of x) ≡ orders_of (noted x e)
moves x e = by (ltb x.used (length x.log.now))
  where
    by : (b : Bool) → counted (orders_of x) ≡ orders_of (cond b (written x e) (passed x))
    by true = refl
    by false = refl

-- the log after a walk, and how the walk ended
pub record TraceOf (G : Meaning) (us : List ℕ) (x y : Recorder) (stop : Option ℕ) : Type 0 where
  pub recorded : Recorded x y (events (traced G (orders_of x) us).log)
  pub stopped : stop ≡ (traced G (orders_of x) us).stop

pub recorded_walk : (G : Meaning) (us : List ℕ) (x : Recorder) → x.used ≡ 0
    → TraceOf G us x (walk recording G us x).visitor (walk recording G us x).stop
recorded_walk G us x z =
    let same = same_log recording trace_visitor orders_of (λ _ _. refl) moves G us x in
    record {
      recorded = subst (λ y. Recorded x y (events (traced G (orders_of x) us).log))
          (ap (heard recording x) same ∙ sym (walk_heard recording x G us)) (heard_recorded x z (traced G (orders_of x) us).log);
      stopped = sym (same_stop recording trace_visitor orders_of (λ _ _. refl) moves G us x);
    }
