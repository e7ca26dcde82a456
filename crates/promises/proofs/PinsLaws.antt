-- Pins over a batch: by forgetting entries its answer words are the plain stack's, and a pinned resident stays as it does there.
use Rattle.std.specs.Prelude.{ℕ, ◌*◌, ◌≡◌, refl, ◌≢◌, List, [], ◌∷◌, ◌++◌, map, take, drop}
use Rattle.std.proofs.Common.{sym, ap, subst, ◌∙◌}
use Rattle.basics.specs.AllLaws.{all_image}
use Rattle.basics.specs.Basics.{All}
use Rattle.settings.specs.declared.Settings.{Settings}
use Rattle.stack.specs.Stack.{Plain, Work, unpin, answer_word, plain_step}
use Rattle.stack.specs.Batch.{work, is_write, run, plain_run}
use Rattle.stack.specs.Entries.{plain, entry_run}
use Rattle.stack.proofs.RunLaws.{plain_ran, AllTold, works}
use Rattle.stack.proofs.BatchLaws.{batch_accepted}
use Rattle.stack.specs.Pins.{Refusing, Holds, Sparing}
use Rattle.stack.proofs.HeldLaws.{step_pins, run_holds}
use Rattle.layout.specs.Sound.{settings_in, view}
use Rattle.layout.proofs.SoundLaws.{sound_kept}
use Rattle.promises.specs.Promises.{over, behind, call_of}
use Rattle.promises.proofs.SliceLaws.{number_zero, accepted_same, accepted_told}
use Rattle.promises.proofs.EachWordLaws.{each_word}
use Rattle.promises.specs.Pins.{AllSeventh, BatchRefuses, BatchSpares, BatchPins}

all_seventh : (B : ℕ) (k : Plain) (ws : List Work) (incoming more : List ℕ) → AllTold B k ws incoming
    → AllSeventh B k ws incoming (map answer_word (run plain_step (λ w. w) B k ws incoming).answers ++ more)
unfolding run
all_seventh B k [] incoming more told = tt
all_seventh B k (w ∷ ws) incoming more told = (
  (told.0.refused_only, λ m all. ap answer_word (told.0.refused_if m all)),
  all_seventh B (plain_step k w (take B incoming)).after ws (drop (is_write w * B) incoming) more told.1,
)

pub batch_refuses : BatchRefuses
unfolding view plain_run plain_ran
batch_refuses words incoming before after promise =
    let s : Settings = settings_in before.directory in
    let k : Plain = plain (behind before) in
    let (h, e) = number_zero words incoming before (sym promise.returned) in
    let (picked, acc) = promise.accepted refl in
    let same : after.answers ≡ over (map answer_word (plain_run k (map (work s) words) incoming).answers) before.answers =
    acc.answers ∙ ap (λ r. over (map answer_word r.answers) before.answers)
    (sym (accepted_same words incoming before h e after picked acc) ∙ batch_accepted k (call_of words incoming before) e) in
    rw same (all_seventh s.b k (map (work s) words) incoming _ (accepted_told words incoming before h e after picked acc))

pub batch_spares : BatchSpares
unfolding view entry_run
batch_spares words incoming before after b promise others holds =
    let s : Settings = settings_in before.directory in
    let (h, e) = number_zero words incoming before (sym promise.returned) in
    let (picked, acc) = promise.accepted refl in
    let others-picked : All (λ w. w ≢ unpin b) (works picked) =
    subst (All (λ w. w ≢ unpin b)) (sym acc.words_picked) (all_image (λ w. w ≢ unpin b) (work s) words others) in
    subst (λ c. Holds b c.stack.residents) (sym acc.cache)
    (run_holds b s.b (behind before) (sound_kept before.directory h before.store) picked incoming others-picked holds)

pub batch_pins : BatchPins
batch_pins = each_word (λ k w now. Refusing k w now × Sparing k w now) step_pins
