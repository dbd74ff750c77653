-- The lines of a journal, one for each event.
use Rattle.std.specs.Prelude.{ℕ, List, [], ◌∷◌, ◌++◌, Bool, true, false, codes, decimal, Option}
use Rattle.ct_word.specs.declared.names.Node.{Node}
use Rattle.ct_word.specs.declared.names.Node.TheVariants.{A, B}
use Rattle.ct_sense.specs.declared.reply.Reply.{Reply}
use Rattle.ct_book.specs.declared.event.Event.{Event}
use Rattle.ct_book.specs.declared.event.Event.TheVariants.{Came, Enter, Turned, Begun, Granted, Moved, Ended, Cut, Asked, Closed, Deliver}
use Rattle.ct_book.specs.declared.event.Why.TheVariants.{By, Medium}
use Rattle.ct_book.specs.declared.event.Kind2.{Kind2}
use Rattle.ct_book.specs.declared.event.Kind2.TheVariants as kind
use Rattle.ct_book.specs.declared.event.Logged.{Logged}
use Rattle.ct_report.specs.AnswerText.{outcome_name, reply_text}

abbrev pub node_name : Node → List ℕ
node_name A = codes "a"
node_name B = codes "b"

abbrev pub kind_name : Kind2 → List ℕ
kind_name kind.Ask = codes "ask"
kind_name kind.Function = codes "function"
kind_name kind.Finish = codes "finish"
kind_name kind.Stopped = codes "stopped"
kind_name kind.Grant = codes "grant"
kind_name kind.Stop = codes "stop"
kind_name kind.Reply = codes "reply"
kind_name kind.Response = codes "response"

-- whether the initiator of a command that was cut gets TASK ABORTED
abbrev pub told_name : Bool → List ℕ
told_name true = codes "told"
told_name false = codes "silent"

-- a command was cut when it had put so many blocks
abbrev pub cut_text : ℕ → ℕ → List ℕ
cut_text number puts = codes "cut " ++ decimal number ++ codes " " ++ decimal puts

-- what the line of an event says, with the reply that counts with it
abbrev pub event_text : Event → Option Reply → List ℕ
event_text (Came number node line) reply = codes "came " ++ decimal number ++ codes " " ++ node_name node ++ codes " " ++ decimal line
event_text (Enter number) reply = codes "in " ++ decimal number
event_text (Turned number) reply = codes "turned " ++ decimal number ++ reply_text reply
event_text (Begun number) reply = codes "begun " ++ decimal number
event_text (Granted number) reply = codes "granted " ++ decimal number
event_text (Moved number count) reply = codes "moved " ++ decimal number ++ codes " " ++ decimal count
event_text (Ended number) reply = codes "ended " ++ decimal number ++ reply_text reply
event_text (Cut number puts (By by) told) reply = cut_text number puts ++ codes " by " ++ decimal by ++ codes " " ++ told_name told
event_text (Cut number puts Medium told) reply = cut_text number puts ++ codes " medium" ++ reply_text reply
event_text (Asked number) reply = codes "asked " ++ decimal number
event_text (Closed number outcome) reply = codes "closed " ++ decimal number ++ codes " " ++ outcome_name outcome
event_text (Deliver node kind number) reply = codes "deliver " ++ node_name node ++ codes " " ++ kind_name kind ++ codes " " ++ decimal number

abbrev pub logged_text : Logged → List ℕ
logged_text logged = event_text logged.event logged.reply ++ codes "\n"

abbrev pub journal_text : List Logged → List ℕ
journal_text [] = []
journal_text (logged ∷ journal) = logged_text logged ++ journal_text journal
