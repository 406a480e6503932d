-- That each description of the table is sound.
use Rattle.std.proofs.Common.{◌≡◌, ap}
use Rattle.quota_map.specs.Asked.{asked_of}
use Rattle.refusals.specs.declared.cause.Cause.TheVariants.{SourceFault, Usage}
use Rattle.refusals.specs.declared.cause.UsageKind.TheVariants.{UnknownCommand}
use Rattle.refusals.specs.declared.reason.Refusal.{Refusal}
use Rattle.command_words.specs.declared.command.Command.{Command}
use Rattle.command_words.specs.declared.command.Command.TheVariants.{Report, SetLimits, CopyLimits, SetGrace, SetTimes}
use Rattle.command_words.specs.declared.command.Command.TheVariants.{Batch, PrintForm, ApplyForm, Check, Convert, Serve}
use Rattle.command_words.specs.declared.command.Command.TheVariants.{Script, Generate}
use Rattle.descriptions.specs.Sound.{IsSound}
use Rattle.descriptions.proofs.SoundLemmas.{never, spares_both}
use Rattle.edit_commands.specs.declared.edit.EditWords.TheVariants.{Limits, Copy, Grace, Times}
use Rattle.edit_commands.proofs.SoundLemmas.{apply_sound, edit_sound, print_sound}
use Rattle.batch_commands.proofs.SoundLemmas.{batch_sound}
use Rattle.file_commands.proofs.SoundLemmas.{check_sound, convert_sound, generate_sound, report_sound}
use Rattle.serve_command.proofs.SoundLemmas.{serve_sound}
use Rattle.command_table.specs.Table.{described, not_here}

-- what stands for no command here is refused for that alone
not_here_sound : IsSound not_here
not_here_sound = record {
  looks_first = λ invocation. tt;
  rooms = never;
  reads_to_end = λ invocation. never;
  sees_alike = λ one other invocation reads. tt;
  opens = λ invocation old opened opens. absurd opens;
  full = λ invocation old acts new refusal blocks limit ends is. tt;
  sure = λ invocation old can. absurd can;
  spares = spares_both not_here.uses not_here.may
      (λ name none same. let cause : SourceFault ≡ Usage UnknownCommand 0 = ap (λ (r : Refusal). r.cause) same in
      absurd (cc (cause)))
      (λ kind word name reads. absurd (cc));
}

pub sound : (command : Command) → IsSound (described command)
sound (Report common options file) = report_sound common options file
sound (SetLimits common name limits file) = edit_sound common (Limits name limits) file
sound (CopyLimits common proto name file) = edit_sound common (Copy proto name) file
sound (SetGrace common block inode file) = edit_sound common (Grace block inode) file
sound (SetTimes common name block inode file) = edit_sound common (Times name block inode) file
sound (Batch common input file) = batch_sound common input file
sound (PrintForm common name file) = print_sound common name file
sound (ApplyForm common input name file) = apply_sound common input name file
sound (Check common fresh device input file) = check_sound common fresh device input file
sound (Convert kind old new source target) = convert_sound kind old new source target
sound (Serve format calls port exports) = serve_sound (asked_of format) calls port exports
sound Script = not_here_sound
sound (Generate seed count file) = generate_sound seed count file
