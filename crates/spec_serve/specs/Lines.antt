-- What a server writes when it has served its links: a line each, with the worker, the link and how it ended.
use Rattle.std.specs.Prelude.{ℕ, suc, ◌++◌, List, [], ◌∷◌, codes, decimal}
use Rattle.spec_serve.specs.declared.link_end.LinkEnd.{LinkEnd}
use Rattle.spec_serve.specs.declared.link_end.LinkEnd.TheVariants as end

-- the word for how a link ended: DONE, READ, WRITE, CUT, OVER or MEMORY
abbrev pub end_text : LinkEnd → List ℕ
end_text end.Done = codes "DONE"
end_text end.Read = codes "READ"
end_text end.Write = codes "WRITE"
end_text end.Cut = codes "CUT"
end_text end.Over = codes "OVER"
end_text end.NoMemory = codes "MEMORY"

-- the line on how one link ended: the number of its worker, its own number, and the word for its end
unfoldable pub end_line : ℕ → ℕ → LinkEnd → List ℕ
end_line worker link end = decimal worker ++ codes " " ++ decimal link ++ codes " " ++ end_text end ++ 10 ∷ []

-- the lines on how the links of the worker of this number ended, one after the other, of which the first has the number
-- `link`
abbrev pub end_lines : ℕ → ℕ → List LinkEnd → List ℕ
end_lines worker link [] = []
end_lines worker link (end ∷ ends) = end_line worker link end ++ end_lines worker (suc link) ends

-- the lines on how the links of these workers ended, of whom the first has this number; each worker's links are counted
-- from 1
abbrev pub lines_from : ℕ → List (List LinkEnd) → List ℕ
lines_from worker [] = []
lines_from worker (ends ∷ workers) = end_lines worker 1 ends ++ lines_from (suc worker) workers

-- what a server writes at its end: the lines on how the links of all workers ended. Workers are counted from 1, and so
-- are the links of each
abbrev pub serve_out : List (List LinkEnd) → List ℕ
serve_out workers = lines_from 1 workers
