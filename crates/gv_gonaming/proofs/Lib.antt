mod Rests
