pub mod RoundRobin
