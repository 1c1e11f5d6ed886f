-- The lines that say how the sessions of a batch ended.
--
-- Each session has one line, in order of words: its word, how many replies it wrote, how many of them are refusals, and how it ended. The
-- lines are this project's own.
--
-- Main definition: `summary`.
-- Worked value: for the word "b" and a session that wrote one reply, a refusal, the line is "b: 1 replies, 1 errors, ok\n".
use Rattle.std.specs.Prelude.{ℕ, List, [], ◌∷◌, ◌++◌, codes}
use Rattle.std.specs.Fmt.{decimal}
use Rattle.kernel_run.specs.declared.report.SessionReport.{SessionReport}
use Rattle.kernel_run.specs.declared.report.End.{End}
use Rattle.kernel_run.specs.declared.report.End.TheVariants.{Finished, Long, ReadFault, WriteFault, Memory}

abbrev pub end_word : End → List ℕ
end_word Finished = codes "ok"
end_word Long = codes "long"
end_word ReadFault = codes "read-fault"
end_word WriteFault = codes "write-fault"
end_word Memory = codes "memory"

abbrev pub summary_line : List ℕ → SessionReport → List ℕ
summary_line name report =
    name ++ (codes ": " ++ (decimal report.replies ++ (codes " replies, " ++ (decimal report.errors ++ (codes " errors, " ++ (end_word report.end ++ codes "\n"))))))

-- the lines of sessions, which have these names
abbrev pub summary : List (List ℕ) → List SessionReport → List ℕ
summary (name ∷ names) (report ∷ reports) = summary_line name report ++ summary names reports
summary names reports = []
