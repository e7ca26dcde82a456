-- What holds of a word from every stack that is kept holds of each word of a batch.
use Rattle.std.specs.Prelude.{ℕ, refl, List, map}
use Rattle.std.proofs.Common.{sym, ap, ◌∙◌}
use Rattle.settings.specs.declared.Settings.{Settings}
use Rattle.stack.specs.Stack.{Plain, Work, Step, answer_word, plain_step}
use Rattle.stack.specs.Batch.{work}
use Rattle.stack.specs.Entries.{plain}
use Rattle.stack.proofs.RunLaws.{plain_ran}
use Rattle.stack.proofs.BatchLaws.{batch_accepted}
use Rattle.stack.proofs.KeepLaws.{Kept}
use Rattle.stack.proofs.StepLaws.{each_step}
use Rattle.stack.proofs.HeldLaws.{kept_plain}
use Rattle.layout.specs.Sound.{settings_in, view}
use Rattle.layout.proofs.SoundLaws.{sound_kept}
use Rattle.promises.specs.Promises.{over, behind, call_of}
use Rattle.promises.proofs.SliceLaws.{number_zero, accepted_same}
use Rattle.promises.specs.EachWord.{EachWord}

pub each_word : (P : Plain → Work → Step Plain → Type 0)
    → ((k : Plain) → Kept k → (w : Work) (incoming : List ℕ) → P k w (plain_step k w incoming)) → EachWord P
unfolding view plain_ran
each_word P one words incoming before after promise =
    let s : Settings = settings_in before.directory in
    let k : Plain = plain (behind before) in
    let (h, e) = number_zero words incoming before (sym promise.returned) in
    let (picked, acc) = promise.accepted refl in
    let same = sym (accepted_same words incoming before h e after picked acc) ∙ batch_accepted k (call_of words incoming before) e in (
      each_step P one s.b k (kept_plain (behind before) (sound_kept before.directory h before.store)) (map (work s) words) incoming,
      ap plain acc.cache ∙ ap (λ r. r.after) same,
      acc.answers ∙ ap (λ r. over (map answer_word r.answers) before.answers) same,
      acc.outgoing ∙ ap (λ r. over r.outgoing before.outgoing) same,
    )
