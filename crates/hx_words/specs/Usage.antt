-- What `--help` and `--version` print.
use Rattle.std.specs.Prelude.{ℕ, List, ◌++◌, codes}

abbrev pub version_text : List ℕ
version_text = codes "fodderca 0.1.0\n"

abbrev pub usage_text : List ℕ
usage_text =
    codes "fodderca runs the script of a simulated cluster controller\n"
    ++ codes "\n"
    ++ codes "Usage: fodderca [OPTIONS] < INPUT\n"
    ++ codes "\n"
    ++ codes "The input is a description of a cluster, a line with three hyphens, and a script or a log.\n"
    ++ codes "Of a script each accepted step is printed, then what its line came to, and last the view.\n"
    ++ codes "\n"
    ++ codes "Modes:\n"
    ++ codes "  sim             runs the script in one thread, line by line\n"
    ++ codes "  gen             makes an input of a size, runs it and prints its summary\n"
    ++ codes "  check           tells whether a log, as sim prints it, is that of a lawful history\n"
    ++ codes "\n"
    ++ codes "Options:\n"
    ++ codes "  --mode MODE     the mode [default: sim]\n"
    ++ codes "  --lanes N       threads that run transitions, 1 to 16 [default: 4]\n"
    ++ codes "  --rounds N      rounds that each actor runs, 0 to 1000 [default: 10]\n"
    ++ codes "  --seed N        what a made input begins with, 0 to 18446744073709551615 [default: 1]\n"
    ++ codes "  --size N        partitions of a made input, 1 to 256 [default: 64]\n"
    ++ codes "  -h, --help      prints this text\n"
    ++ codes "  -V, --version   prints the version\n"
    ++ codes "An option that the mode does not need has no effect.\n"
    ++ codes "\n"
    ++ codes "Example:\n"
    ++ codes "  printf 'builtin demo\\n---\\njoin n1\\nlead c1\\npass c1\\nwork n1\\nview\\n' | fodderca\n"
