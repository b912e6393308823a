-- What is written of replies: a line each, which begins with the number of the session, and the text of a model or the
-- lines of a certificate after it.
use Rattle.std.specs.Prelude.{ℕ, ◌==◌, ◌++◌, Option, Some, None, List, [], ◌∷◌, length, codes, decimal}
use Rattle.std.specs.List.{filter, flat_map}
use Rattle.spec_exact.specs.Fraction.{ℚ}
use Rattle.spec_exact.specs.declared.past.Op.{Op}
use Rattle.spec_exact.specs.declared.past.Op.TheVariants.{Add, Sub, Mul, Div, Cmp}
use Rattle.spec_exact.specs.declared.past.Past.{Past}
use Rattle.spec_model.specs.Model.{Name}
use Rattle.spec_mps.specs.declared.fault.MpsFault.{MpsFault}
use Rattle.spec_mps.specs.Checks.{code_number}
use Rattle.spec_mps.specs.NumberWritten.{number_text}
use Rattle.spec_check.specs.declared.certificate.Known.{Known}
use Rattle.spec_check.specs.declared.certificate.Known.TheVariants as known
use Rattle.spec_check.specs.declared.certificate.Verdict.{Verdict}
use Rattle.spec_check.specs.declared.certificate.Verdict.TheVariants as verdict
use Rattle.spec_edit.specs.declared.edit.Which.{Which}
use Rattle.spec_edit.specs.declared.edit.Which.TheVariants.{Rows, Columns}
use Rattle.spec_runs.specs.declared.ends.Fall.{Fall}
use Rattle.spec_runs.specs.declared.ends.Fall.TheVariants as fall
use Rattle.spec_board.specs.declared.read.Put.{Put}
use Rattle.spec_board.specs.declared.read.Put.TheVariants as put
use Rattle.spec_server.specs.declared.addressing.Addressing.{Addressing}
use Rattle.spec_server.specs.declared.addressing.Addressing.TheVariants.{Numbered, Alone}
use Rattle.spec_server.specs.declared.answer.How.{How}
use Rattle.spec_server.specs.declared.answer.How.TheVariants.{Cold, Basis, Fell}
use Rattle.spec_server.specs.declared.answer.Publication.{Publication}
use Rattle.spec_server.specs.declared.answer.Publication.TheVariants.{Nothing, Same, Tried}
use Rattle.spec_server.specs.declared.command.LineFault.{LineFault}
use Rattle.spec_server.specs.declared.command.LineFault.TheVariants as fault
use Rattle.spec_server.specs.declared.asks.Reply.TheVariants as reply
use Rattle.spec_server.specs.declared.asks.Refusal.{Refusal}
use Rattle.spec_server.specs.declared.asks.Refusal.TheVariants as refusal
use Rattle.spec_server.specs.Machine.{ExactReply}

-- the text of a fraction in a reply, the same as in a model's text
abbrev pub fraction_text : ℚ → List ℕ
fraction_text q = number_text q

-- the word for an operation that was refused
abbrev pub op_text : Op → List ℕ
op_text Add = codes "ADD"
op_text Sub = codes "SUB"
op_text Mul = codes "MUL"
op_text Div = codes "DIV"
op_text Cmp = codes "CMP"

-- the text of an operation past the limit: `PAST`, the operation's word and its two operands
abbrev pub past_text : Past ℚ → List ℕ
past_text p = codes "PAST " ++ op_text p.op ++ codes " " ++ fraction_text p.a ++ codes " " ++ fraction_text p.b

-- the text of an answer: `OPTIMAL` and the value, `INFEASIBLE` or `UNBOUNDED`
abbrev pub known_text : Known ℚ → List ℕ
known_text (known.Optimal v) = codes "OPTIMAL " ++ fraction_text v
known_text known.Infeasible = codes "INFEASIBLE"
known_text known.Unbounded = codes "UNBOUNDED"

-- the text of a checker's verdict: `YES` and what is known, `NO` and the number of the reason,
-- or an operation past the limit
abbrev pub verdict_text : Verdict ℚ → List ℕ
verdict_text (verdict.Yes what) = codes "YES " ++ known_text what
verdict_text (verdict.No n) = codes "NO " ++ decimal n
verdict_text (verdict.Past p) = past_text p

-- the word for why a warm start stopped
abbrev pub fall_text : Fall → List ℕ
fall_text fall.Singular = codes "SINGULAR"
fall_text fall.Unfit = codes "UNFIT"
fall_text fall.Past = codes "PAST"
fall_text fall.Spent = codes "SPENT"

-- the text of how an answer was found: cold; from the basis at a place; or cold,
-- because the start from that basis stopped
abbrev pub how_text : How → List ℕ
how_text Cold = codes "COLD"
how_text (Basis k) = codes "BASIS " ++ decimal k
how_text (Fell k why) = codes "FELL " ++ decimal k ++ codes " " ++ fall_text why

-- a number of pivots, or `-` where none is known
abbrev pub pivots_text : Option ℕ → List ℕ
pivots_text None = codes "-"
pivots_text (Some n) = decimal n

-- the text of how publishing words ended: the place that has them, or how many places were claimed
abbrev pub put_text : Put → List ℕ
put_text (put.Published k) = codes "PUBLISHED " ++ decimal k
put_text (put.Raced c) = codes "RACED " ++ decimal c
put_text (put.Full c) = codes "FULL " ++ decimal c

-- the text of what became of the basis of the last answer: none to publish, the same as the one found,
-- or how publishing ended
abbrev pub publication_text : Publication → List ℕ
publication_text Nothing = codes "NONE"
publication_text Same = codes "SAME"
publication_text (Tried put) = put_text put

-- the number and the word for why a line is no command
abbrev pub line_fault_text : LineFault → List ℕ
line_fault_text fault.Word = codes "1 WORD"
line_fault_text fault.Number = codes "2 NUMBER"
line_fault_text fault.Wide = codes "3 WIDE"
line_fault_text fault.Long = codes "11 LONG"

-- the text of a fault in a model's text: the number of the line, and the number of the fault
unfoldable pub fault_text : MpsFault → List ℕ
fault_text fault = codes "MPS " ++ decimal fault.line ++ codes " M" ++ decimal (code_number fault.code)

-- the text of a refusal to write fixed form: the item that is too wide for it
unfoldable pub item_text : List ℕ → List ℕ
item_text item = codes "FIXEDWIDE " ++ item

-- the text of a refusal for a name that stands twice: `REPEATED` and the name
unfoldable pub repeated_text : List ℕ → List ℕ
repeated_text name = codes "REPEATED " ++ name

-- the word for what there are too many of: `ROWS` or `COLUMNS`
abbrev pub which_text : Which → List ℕ
which_text Rows = codes "ROWS"
which_text Columns = codes "COLUMNS"

-- the text of a refusal behind the word `ERR`: its number, its word and what is at fault
abbrev pub refusal_text : Refusal Name (List ℕ) → List ℕ
refusal_text (refusal.Bad why) = line_fault_text why
refusal_text refusal.NoModel = codes "4 NOMODEL"
refusal_text (refusal.Name name) = codes "5 NAME " ++ name
refusal_text (refusal.Taken name) = codes "6 TAKEN " ++ name
refusal_text (refusal.Limit which count) = codes "7 LIMIT " ++ which_text which ++ codes " " ++ decimal count
refusal_text refusal.BadName = codes "13 BADNAME"
refusal_text refusal.NoAnswer = codes "9 NOANSWER"
refusal_text (refusal.Repeated name) = codes "12 " ++ repeated_text name
refusal_text (refusal.Misspelled fault) = codes "8 " ++ fault_text fault
refusal_text (refusal.Unfit line) = codes "14 CERT " ++ decimal line
refusal_text (refusal.FixedWide item) = codes "10 " ++ item_text item
refusal_text (refusal.FreeRow name) = codes "16 FREEROW " ++ name

-- how many line feeds a text has, one at the end of each line
unfoldable pub count_of_lines : List ℕ → ℕ
count_of_lines text = length (filter (λ b. b == 10) text)

-- the first line of a reply, without the session's number and the line feed
unfoldable pub reply_text : ExactReply → List ℕ
reply_text (reply.Loaded rows columns) = codes "LOADED " ++ decimal rows ++ codes " " ++ decimal columns
reply_text (reply.Written text) = codes "TEXT " ++ decimal (count_of_lines text)
reply_text reply.Done = codes "OK"
reply_text (reply.Known what) = known_text what
reply_text (reply.Past p) = past_text p
reply_text (reply.Spent budget) = codes "SPENT " ++ decimal budget
reply_text (reply.Certified lines) = codes "CERT " ++ decimal (length lines)
reply_text (reply.Found how pivots publication) =
    codes "HOW " ++ how_text how ++ codes " PIVOTS " ++ pivots_text pivots ++ codes " " ++ publication_text publication
reply_text (reply.Checked what) = verdict_text what
reply_text (reply.Wide lines) = codes "WIDE " ++ decimal (length lines)
reply_text reply.Bye = codes "BYE"
reply_text reply.Memory = codes "MEMORY"
reply_text (reply.Refused why) = codes "ERR " ++ refusal_text why

-- the line of a reply with its line feed, as commands that read a text write it
unfoldable pub check_line : ExactReply → List ℕ
check_line replied = reply_text replied ++ 10 ∷ []

-- lines, each with a line feed after it
unfoldable pub ended_lines : List (List ℕ) → List ℕ
ended_lines lines = flat_map (λ line. line ++ 10 ∷ []) lines

-- the text behind a reply's first line: that of a model,
-- or the lines of a certificate or of an exact solve; else nothing
abbrev pub lines_behind : ExactReply → List ℕ
lines_behind (reply.Loaded rows columns) = []
lines_behind (reply.Written text) = text
lines_behind reply.Done = []
lines_behind (reply.Known what) = []
lines_behind (reply.Past p) = []
lines_behind (reply.Spent budget) = []
lines_behind (reply.Certified lines) = ended_lines lines
lines_behind (reply.Found how pivots publication) = []
lines_behind (reply.Checked what) = []
lines_behind (reply.Wide lines) = ended_lines lines
lines_behind reply.Bye = []
lines_behind reply.Memory = []
lines_behind (reply.Refused why) = []

-- what stands in front of a reply: the number of the session and a blank, where lines name sessions; else nothing
abbrev pub front_of : Addressing → ℕ → List ℕ
front_of Numbered session = decimal session ++ codes " "
front_of Alone session = []

-- the bytes that are written of a reply: its first line, with the session's number if lines name sessions, and what
-- stands behind it
unfoldable pub reply_lines : Addressing → ℕ → ExactReply → List ℕ
reply_lines addressing session replied = front_of addressing session ++ reply_text replied ++ 10 ∷ lines_behind replied
