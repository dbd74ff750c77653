-- Refusals as replies.
use Rattle.std.specs.Prelude.{[]}
use Rattle.ct_sense.specs.declared.reply.Reply.{Reply}
use Rattle.ct_exec.specs.declared.refusal.Refusal.{Refusal}

-- the reply of a refusal: it has no data
abbrev pub refused_reply : Refusal → Reply
refused_reply refusal = record {
  status = refusal.status;
  sense = refusal.sense;
  descriptor = refusal.descriptor;
  body = [];
}
