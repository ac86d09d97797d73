-- The chart of an order, as SVG: a lane for each host, in which the turns of the guest lie as bars, and what was asked of
-- its moves. To the right the turns go on, as many as all hosts were asked for: one turn is one unit of the lanes' own
-- coordinates, which are stretched to their width (SVG 2, "The viewBox attribute", "The preserveAspectRatio attribute").
use Rattle.std.specs.Prelude.{ℕ, suc, zero, ◌+◌, ◌*◌, ◌==◌, max, if◌then◌else◌, List, [], ◌∷◌, ◌++◌, Option, Some, None, codes}
use Rattle.std.specs.Fmt.{decimal}
use Rattle.rvm_board.specs.declared.event.BoardEvent.TheVariants.{Step}
use Rattle.rvm_message.specs.declared.event.Command.TheVariants.{Abort, Begin, Board, Copy, Resend}
use Rattle.rvm_core.specs.declared.event.Event.{Event}
use Rattle.rvm_core.specs.declared.event.Event.TheVariants.{At}
use Rattle.rvm_audit.specs.declared.placed.Piece.{Piece}
use Rattle.rvm_audit.specs.declared.placed.Piece.TheVariants as piece
use Rattle.rvm_replay.specs.Counts.{capped}
use Rattle.rvm_replay.specs.declared.drawing.Bar.{Bar}
use Rattle.rvm_replay.specs.declared.drawing.Copies.{Copies}
use Rattle.rvm_replay.specs.declared.drawing.Drawing.{Drawing}

-- nothing is drawn yet
abbrev pub start : Drawing
start = record { turn = 0; bar = None; copies = None }

-- the bar of a host's turns, which goes on with this one or begins with it
abbrev pub bar_at : (host turn : ℕ) → Option Bar → Bar
bar_at h t None = record { host = h; from = t }
bar_at h t (Some b) = if b.host == h then b else record { host = h; from = t }

-- the copies that a host was asked for, with one more
abbrev pub copies_at : (host turn : ℕ) → Option Copies → Copies
copies_at h t None = record { host = h; from = t; until = t; count = 1 }
copies_at h t (Some c) =
    if c.host == h then record c { until = t; count = capped (c.count + 1) }
    else record { host = h; from = t; until = t; count = 1 }

-- the copies that this host was asked for, and those of no other
abbrev pub copies_of : (host : ℕ) → Option Copies → Option Copies
copies_of h None = None
copies_of h (Some c) = if c.host == h then Some c else None

-- a drawing after n more turns of a host
abbrev pub after_turns : Drawing → (host n : ℕ) → Drawing
after_turns d h n = record {
  turn = capped (d.turn + n);
  bar = Some (bar_at h d.turn d.bar);
  copies = copies_of h d.copies;
}

-- a drawing after one more event
abbrev pub after : Drawing → Event → Drawing
after d (At h (Board (Step k))) = after_turns d h 1
after d (At h Copy) = record d { copies = Some (copies_at h d.turn d.copies) }
after d (At h (Begin to policy)) = record d { copies = None }
after d (At h Abort) = record d { copies = None }
after d event = d

-- a drawing after more events
abbrev pub after_all : Drawing → List Event → Drawing
after_all d [] = d
after_all d (e ∷ es) = after_all (after d e) es

-- a box from one turn to another, of this height and with its top at y, up to its colour (SVG 2, "Path data"); its outline
-- has the same width however few turns the box has ("Vector effects")
unfoldable pub box_text : (from until y height : ℕ) → List ℕ
box_text from until y height =
    codes "<path d=\"M" ++ (decimal from ++ (codes " " ++ (decimal y ++ (codes "H" ++ (decimal until
    ++ (codes "v" ++ (decimal height ++ (codes "H" ++ (decimal from
    ++ codes "z\" vector-effect=\"non-scaling-stroke\" ")))))))))

-- the colour of a bar, and from which turn to which it goes
unfoldable pub bar_title : (from until : ℕ) → List ℕ
bar_title from until =
    codes "fill=\"#4477aa\" stroke=\"#4477aa\"><title>turns " ++ (decimal from ++ (codes " to " ++ (decimal until
    ++ (codes "</title></path>" ++ codes "\n"))))

-- a bar of turns, up to this one
abbrev pub bar_text : (until : ℕ) → Bar → List ℕ
bar_text t b = box_text b.from t (40 * b.host + 16) 16 ++ bar_title b.from t

-- the colour of copies, and how many there are
unfoldable pub copies_title : (count : ℕ) → List ℕ
copies_title n =
    codes "fill=\"#ccbb44\" stroke=\"#ccbb44\"><title>" ++ (decimal n ++ (codes " copies</title></path>" ++ codes "\n"))

-- copies, above the turns that were made between them
abbrev pub copies_text : Copies → List ℕ
copies_text c = box_text c.from c.until (40 * c.host + 8) 8 ++ copies_title c.count

-- a mark at a turn, with its top at y, of this colour; its title says what was asked (SVG 2, "The title and desc elements")
unfoldable pub mark_at : (turn y : ℕ) → (colour asked : List ℕ) → List ℕ
mark_at t y colour asked =
    codes "<path d=\"M" ++ (decimal t ++ (codes " " ++ (decimal y ++ (codes "v32\" stroke=\"" ++ (colour
    ++ (codes "\" vector-effect=\"non-scaling-stroke\"><title>" ++ (asked ++ (codes "</title></path>" ++ codes "\n"))))))))

-- a mark at a turn in the lane of a host
abbrev pub mark_text : (host turn : ℕ) → (colour asked : List ℕ) → List ℕ
mark_text h t colour asked = mark_at t (40 * h + 4) colour asked

-- a bar, if there is one
abbrev pub bar_out : (until : ℕ) → Option Bar → List ℕ
bar_out t None = []
bar_out t (Some b) = bar_text t b

-- copies, if there are some
abbrev pub copies_out : Option Copies → List ℕ
copies_out None = []
copies_out (Some c) = copies_text c

-- a bar, if it is of another host than this one
abbrev pub bar_left : (host until : ℕ) → Option Bar → List ℕ
bar_left h t None = []
bar_left h t (Some b) = if b.host == h then [] else bar_text t b

-- copies, if another host than this one was asked for them
abbrev pub copies_left : (host : ℕ) → Option Copies → List ℕ
copies_left h None = []
copies_left h (Some c) = if c.host == h then [] else copies_text c

-- what is drawn once a host makes turns: what those of other hosts ended with
abbrev pub turns_drawn : Drawing → (host : ℕ) → List ℕ
turns_drawn d h = bar_left h d.turn d.bar ++ copies_left h d.copies

-- what is drawn once this event comes: what ended with it, and the mark of what it asks for
abbrev pub drawn : Drawing → Event → List ℕ
drawn d (At h (Board (Step k))) = turns_drawn d h
drawn d (At h Copy) = copies_left h d.copies
drawn d (At h (Begin to policy)) = copies_out d.copies ++ mark_text h d.turn (codes "#228833") (codes "begin")
drawn d (At h Abort) = copies_out d.copies ++ mark_text h d.turn (codes "#ee6677") (codes "abort")
drawn d (At h Resend) = mark_text h d.turn (codes "#aa3377") (codes "resend")
drawn d event = []

-- what is drawn as events come
abbrev pub all_drawn : Drawing → List Event → List ℕ
all_drawn d [] = []
all_drawn d (e ∷ es) = drawn d e ++ all_drawn (after d e) es

-- a drawing after one more piece of an order, whose turns are drawn at once
abbrev pub after_piece : Drawing → Piece → Drawing
after_piece d (piece.Event e) = after d e
after_piece d (piece.Turns t) = after_turns d t.host t.turns

-- what is drawn once this piece comes
abbrev pub piece_drawn : Drawing → Piece → List ℕ
piece_drawn d (piece.Event e) = drawn d e
piece_drawn d (piece.Turns t) = turns_drawn d t.host

-- what is drawn after the last event
abbrev pub rest_drawn : Drawing → List ℕ
rest_drawn d = bar_out d.turn d.bar ++ copies_out d.copies

-- where the name of a lane stands, with its baseline at y
unfoldable pub lane_place : (y : ℕ) → List ℕ
lane_place y = codes "<text x=\"4\" y=\"" ++ decimal y ++ codes "\">"

-- the name of a host's lane
abbrev pub lane_text : (host : ℕ) → List ℕ
lane_text h = lane_place (40 * h + 29) ++ (65 + h) ∷ codes "</text>\n"

-- the names of the lanes of the first n hosts
abbrev pub lanes_text : (n : ℕ) → List ℕ
lanes_text zero = []
lanes_text (suc n) = lanes_text n ++ lane_text n

-- how a chart of this height begins
unfoldable pub chart_begin : (height : ℕ) → List ℕ
chart_begin height =
    codes "<svg xmlns=\"http://www.w3.org/2000/svg\" width=\"1000\" height=\"" ++ (decimal height
    ++ (codes "\" font-family=\"sans-serif\" font-size=\"14\">" ++ codes "\n"))

-- how the lanes of a chart begin, which have this height together, and room for this many turns
unfoldable pub lanes_begin : (height turns : ℕ) → List ℕ
lanes_begin height turns =
    codes "<svg x=\"24\" width=\"960\" height=\"" ++ (decimal height ++ (codes "\" viewBox=\"0 0 " ++ (decimal turns
    ++ (codes " " ++ (decimal height ++ (codes "\" preserveAspectRatio=\"none\">" ++ codes "\n"))))))

-- how the lanes of a chart and the chart end, with the number of turns at y
unfoldable pub chart_end : (y turns : ℕ) → List ℕ
chart_end y turns =
    codes "</svg>\n<text x=\"24\" y=\"" ++ (decimal y ++ (codes "\">turns 0 to " ++ (decimal turns
    ++ (codes "</text>\n</svg>" ++ codes "\n"))))

-- the chart of an order of the journals of this many hosts
abbrev pub chart_of : (hosts : ℕ) → List Event → List ℕ
chart_of n events =
    chart_begin (40 * n + 24) ++ lanes_text n ++ lanes_begin (40 * n) (max (after_all start events).turn 1)
    ++ all_drawn start events ++ rest_drawn (after_all start events)
    ++ chart_end (40 * n + 16) (after_all start events).turn
