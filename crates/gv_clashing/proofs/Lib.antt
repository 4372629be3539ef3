mod Clashing
