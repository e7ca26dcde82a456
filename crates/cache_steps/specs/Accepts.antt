-- An accepted batch: its words carried out one after the other meet the promise.
use Rattle.std.specs.Prelude.{ℕ, ◌≤◌, ◌≡◌, not, List, [], ◌∷◌, map, T}
use Rattle.std.proofs.Common.{sym, ap, subst, ◌∙◌}
use Rattle.basics.specs.Basics.{All}
use Rattle.words.specs.Links.{links_changed}
use Rattle.settings.specs.declared.Settings.{Settings}
use Rattle.stack.specs.Stack.{Work, Answer, answer_word, halved}
use Rattle.stack.specs.Batch.{work}
use Rattle.stack.specs.Entries.{entry_run}
use Rattle.layout.specs.Sound.{settings_in, view}
use Rattle.promises.specs.Promises.{over, Slices, behind, Accepted}
use Rattle.promises.specs.Demand3.{Memory}
use Rattle.cache_steps.specs.Carried.{memory, Ready}
use Rattle.cache_steps.specs.Runs.{Chain, AllCarried, chain_ready, none_carried, all_carried}

-- the memory among a batch's slices
abbrev pub memory_in : Slices → Memory
memory_in t = memory t.directory t.bytes t.store

module _ (words incoming : List ℕ) (before after : Slices) {answers : List Answer} {given : List ℕ}
    (ready : Ready (memory_in before))
    (chain : Chain (settings_in before.directory).b (memory_in before) (map (work (settings_in before.directory)) words) incoming (memory_in after)
    answers given) where
  abbrev s : Settings
  s = settings_in before.directory

  done : AllCarried s.b (memory_in before) (map (work s) words) incoming (memory_in after) answers given
  done = all_carried chain

  ran_is : entry_run (behind before) done.picked incoming ≡ record { after = behind after; answers = answers; outgoing = given }
  unfolding entry_run view
  ran_is = done.run_is

  -- one word, of whatever kind
  links : (w : ℕ) → words ≡ w ∷ [] → All (λ a. T (not (halved a))) answers → links_changed before.directory after.directory ≤ 20
  links w e calm = done.links_few (work s w) (ap (map (work s)) e) calm

  empty_batch : after.answers ≡ over (map answer_word answers) before.answers → after.outgoing ≡ over given before.outgoing
      → words ≡ [] → after ≡ before
  empty_batch told gave e =
      let (was, no-answers, none_given) = none_carried chain (ap (map (work s)) e) in
      let same : memory_in after ≡ memory_in before = sym was in
      let told' : after.answers ≡ before.answers = told ∙ ap (λ l. over (map answer_word l) before.answers) no-answers in
      let gave' : after.outgoing ≡ before.outgoing = gave ∙ ap (λ l. over l before.outgoing) none_given in
      λ i. record { directory = (same i).directory; bytes = (same i).bytes; store = (same i).store; answers = told' i; outgoing = gave' i }

  pub accepted : after.answers ≡ over (map answer_word answers) before.answers → after.outgoing ≡ over given before.outgoing
      → (picked : List (Work × ℕ)) × Accepted words incoming before after picked
  accepted told gave = (
    done.picked,
    record {
      words_picked = done.words_picked;
      picks = done.picks;
      cache = ap (λ r. r.after) (sym ran_is);
      sound_after = (chain_ready chain ready).is_sound;
      answers = told ∙ ap (λ r. over (map answer_word r.answers) before.answers) (sym ran_is);
      outgoing = gave ∙ ap (λ r. over r.outgoing before.outgoing) (sym ran_is);
      words_past = done.words_past;
      bytes_past = done.bytes_past;
      empty_batch = empty_batch told gave;
      links_stay = λ w e still. done.links_none (work s w) (ap (map (work s)) e) still;
      links = λ w e calm. links w e (subst (λ r. All (λ a. T (not (halved a))) r.answers) ran_is calm);
    },
  )
